-- The kinds of rows and of tasks, and the letter that each has in a key.
use Rattle.std.specs.Prelude.{ℕ, List, [], ◌∷◌, ◌==◌, Option, Some, None, codes, if◌then◌else◌}
use Rattle.pcj_encode.specs.declared.order.Order.{Order}
use Rattle.pcj_encode.specs.declared.order.Order.TheVariants as order
use Rattle.pcj_encode.specs.declared.key_name.KeyName.{KeyName}
use Rattle.pcj_encode.specs.declared.key_name.KeyName.TheVariants as row
use Rattle.pcj_encode.specs.declared.tag.Tag.{Tag}
use Rattle.pcj_encode.specs.declared.tag.Tag.TheVariants.{Clock, Spo, Pos, Osp, Node, Group, Member, Registration, Name, Pattern, Task, Export}
use Rattle.pcj_encode.specs.declared.task_tag.TaskTag.{TaskTag}
use Rattle.pcj_encode.specs.declared.task_tag.TaskTag.TheVariants as task

abbrev pub letter_of : Tag → List ℕ
letter_of Clock = codes "z"
letter_of Spo = codes "s"
letter_of Pos = codes "p"
letter_of Osp = codes "o"
letter_of Node = codes "r"
letter_of Group = codes "g"
letter_of Member = codes "m"
letter_of Registration = codes "q"
letter_of Name = codes "a"
letter_of Pattern = codes "t"
letter_of Task = codes "n"
letter_of Export = codes "x"

abbrev pub task_letter_of : TaskTag → List ℕ
task_letter_of task.Triple = codes "t"
task_letter_of task.Backfill = codes "b"
task_letter_of task.Row = codes "r"
task_letter_of task.Export = codes "e"

abbrev pub order_kind : Order → Tag
order_kind order.Spo = Spo
order_kind order.Pos = Pos
order_kind order.Osp = Osp

-- the kind of a row
abbrev pub kind_of : KeyName → Tag
kind_of row.Clock = Clock
kind_of (row.Triple order triple) = order_kind order
kind_of (row.Node registration node cells) = Node
kind_of (row.Group registration cells) = Group
kind_of (row.Member registration cells term) = Member
kind_of (row.Registration registration) = Registration
kind_of (row.Name name) = Name
kind_of (row.Pattern registration node) = Pattern
kind_of (row.Task task) = Task
kind_of (row.Export registration cells) = Export

-- the kind that has this letter
abbrev pub tagged : ℕ → Option Tag
tagged letter =
    if letter == 122 then Some Clock else
    if letter == 115 then Some Spo else
    if letter == 112 then Some Pos else
    if letter == 111 then Some Osp else
    if letter == 114 then Some Node else
    if letter == 103 then Some Group else
    if letter == 109 then Some Member else
    if letter == 113 then Some Registration else
    if letter == 97 then Some Name else
    if letter == 116 then Some Pattern else
    if letter == 110 then Some Task else
    if letter == 120 then Some Export else
    None

abbrev pub tag_of : List ℕ → Option Tag
tag_of [] = None
tag_of (letter ∷ []) = tagged letter
tag_of (letter ∷ next ∷ bytes) = None

-- the kind of task that has this letter
abbrev pub task_tagged : ℕ → Option TaskTag
task_tagged letter =
    if letter == 116 then Some task.Triple else
    if letter == 98 then Some task.Backfill else
    if letter == 114 then Some task.Row else
    if letter == 101 then Some task.Export else
    None

abbrev pub task_tag_of : List ℕ → Option TaskTag
task_tag_of [] = None
task_tag_of (letter ∷ []) = task_tagged letter
task_tag_of (letter ∷ next ∷ bytes) = None
