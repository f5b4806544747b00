mod CodePoints
