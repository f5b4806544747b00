-- The lines of a transcript, each without its LF.
use Rattle.std.specs.Prelude.{ℕ, List, [], ◌∷◌, ◌++◌, codes}
use Rattle.std.specs.Fmt.{decimal}

-- a line with its LF
abbrev pub ended : List ℕ → List ℕ
ended line = line ++ 10 ∷ []

-- a client as it is written and printed
abbrev pub client_name : ℕ → List ℕ
client_name client = codes "c" ++ decimal client

-- ---- loads and registrations

abbrev pub loaded_line : ℕ → ℕ → ℕ → List ℕ
loaded_line client number count = client_name client ++ codes " load " ++ decimal number ++ codes " " ++ decimal count ++ codes " triples"

abbrev pub registered_line : ℕ → ℕ → List ℕ → List ℕ
registered_line client number name = client_name client ++ codes " register " ++ decimal number ++ codes " " ++ name

abbrev pub committed_line : ℕ → ℕ → List ℕ
committed_line client number = client_name client ++ codes " committed " ++ decimal number

abbrev pub refused_line : ℕ → ℕ → ℕ → List ℕ
refused_line client place kind = client_name client ++ codes " refused " ++ decimal place ++ codes " " ++ decimal kind

abbrev pub taken_line : ℕ → List ℕ
taken_line client = client_name client ++ codes " taken"

-- ---- answers

abbrev pub no_query_line : List ℕ → List ℕ
no_query_line name = codes "no query " ++ name

abbrev pub rows_line : ℕ → List ℕ
rows_line count = codes "rows " ++ decimal count

-- ---- how a run ends

-- all timestamps were granted
abbrev pub spent_line : List ℕ
spent_line = codes "spent"

abbrev pub script_line : ℕ → List ℕ
script_line line = codes "script " ++ decimal line ++ codes " 0"

abbrev pub usage_line : List ℕ
usage_line = codes "usage: pcj replay | pcj big SEED N | pcj generate SEED N"
