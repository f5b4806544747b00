mod TaskLemmas
