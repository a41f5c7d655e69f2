-- What a page says, and the bytes that say it.
--
-- A page has three sections: names, runs and edits. Each begins with its count, and its records follow.
-- Numbers have the high byte first.
use Rattle.std.specs.Prelude.{ℕ, ◌/◌, ◌%◌, ◌<◌, ◌≤◌, List, [], ◌∷◌, ◌++◌, length}
use Rattle.std.specs.List.{flat_map, AllByRecursion}
use Rattle.fault.specs.declared.Section.{Section}
use Rattle.fault.specs.declared.Section.TheVariants.{Names, Runs, Edits}
use Rattle.run.specs.declared.Run.{Run}
use Rattle.page_format.specs.declared.Retime.{Retime}
use Rattle.page_format.specs.declared.Edit.{Edit}
use Rattle.page_format.specs.declared.Edit.TheVariants as edit

-- a number in two bytes and in four
abbrev pub two : ℕ → List ℕ
two n = n / 256 ∷ (n % 256 ∷ [])

abbrev pub four : ℕ → List ℕ
four n = n / 16777216 ∷ (n / 65536 % 256 ∷ (n / 256 % 256 ∷ (n % 256 ∷ [])))

-- what a record of each section says: a vault's name, a run, an edit
abbrev pub Item : Section → Type 0
Item Names = List ℕ
Item Runs = Run
Item Edits = Edit

-- the bytes of a name: its length, and its letters
abbrev pub name_bytes : List ℕ → List ℕ
name_bytes name = length name ∷ name

-- the fourteen bytes of a run
abbrev pub add_bytes : Run → List ℕ
add_bytes a = two a.number ++ (a.from ∷ (a.to ∷ (four a.start ++ (four a.end ++ two a.fittings))))

abbrev pub retime_bytes : Retime → List ℕ
retime_bytes t = two t.run ++ (four t.start ++ four t.end)

-- the bytes of an edit: its kind, and what that kind holds
abbrev pub edit_bytes : Edit → List ℕ
edit_bytes (edit.Add a) = 1 ∷ add_bytes a
edit_bytes (edit.Cancel run) = 2 ∷ two run
edit_bytes (edit.Retime t) = 3 ∷ retime_bytes t

abbrev pub item_bytes : (x : Section) → Item x → List ℕ
item_bytes Names name = name_bytes name
item_bytes Runs a = add_bytes a
item_bytes Edits e = edit_bytes e

-- a letter of a name
abbrev pub Letter : ℕ → Type 0
Letter b = (33 ≤ b) × (b ≤ 126)

-- the fields fit their bytes
pub record AddFits (a : Run) : Type 0 where
  pub number : a.number < 65536
  pub from : a.from < 256
  pub to : a.to < 256
  pub start : a.start < 4294967296
  pub end : a.end < 4294967296
  pub fittings : a.fittings < 65536

pub record RetimeFits (t : Retime) : Type 0 where
  pub run : t.run < 65536
  pub start : t.start < 4294967296
  pub end : t.end < 4294967296

abbrev pub EditFits : Edit → Type 0
EditFits (edit.Add a) = AddFits a
EditFits (edit.Cancel run) = run < 65536
EditFits (edit.Retime t) = RetimeFits t

-- what a record may say: a name has 1 to 24 letters, and numbers fit their bytes
abbrev pub Lawful : (x : Section) → Item x → Type 0
Lawful Names name = (1 ≤ length name) × (length name ≤ 24) × AllByRecursion Letter name
Lawful Runs a = AddFits a
Lawful Edits e = EditFits e

-- how many records a section may have, and how many bytes its count has
abbrev pub limit : Section → ℕ
limit Names = 64
limit Runs = 1024
limit Edits = 2048

abbrev pub width : Section → ℕ
width Names = 1
width Runs = 2
width Edits = 2

abbrev pub count_bytes : Section → ℕ → List ℕ
count_bytes Names n = n ∷ []
count_bytes Runs n = two n
count_bytes Edits n = two n

abbrev pub section_bytes : (x : Section) → List (Item x) → List ℕ
section_bytes x items = count_bytes x (length items) ++ flat_map (item_bytes x) items

-- what a whole page says
pub record Content : Type 0 where
  pub names : List (List ℕ)
  pub runs : List Run
  pub edits : List Edit

pub record LawfulPage (c : Content) : Type 0 where
  pub names : (length c.names ≤ 64) × AllByRecursion (Lawful Names) c.names
  pub runs : (length c.runs ≤ 1024) × AllByRecursion (Lawful Runs) c.runs
  pub edits : (length c.edits ≤ 2048) × AllByRecursion (Lawful Edits) c.edits

-- the bytes of a page
abbrev pub page_bytes : Content → List ℕ
page_bytes c = section_bytes Names c.names ++ (section_bytes Runs c.runs ++ section_bytes Edits c.edits)
