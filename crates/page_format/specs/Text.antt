-- The lines in which a page's records are listed, without their line ends.
use Rattle.std.specs.Prelude.{ℕ, List, ◌++◌, codes, decimal}
use Rattle.run.specs.Text.{run_text}
use Rattle.page_format.specs.declared.Counts.{Counts}
use Rattle.page_format.specs.declared.Retime.{Retime}
use Rattle.page_format.specs.declared.Edit.{Edit}
use Rattle.page_format.specs.declared.Edit.TheVariants as edit

-- run, start, end
abbrev pub retime_text : Retime → List ℕ
retime_text t = decimal t.run ++ (codes " " ++ (decimal t.start ++ (codes " " ++ decimal t.end)))

abbrev pub edit_text : Edit → List ℕ
edit_text (edit.Add a) = codes "add " ++ run_text a
edit_text (edit.Cancel run) = codes "cancel " ++ decimal run
edit_text (edit.Retime t) = codes "retime " ++ retime_text t

-- how many records each section has
abbrev pub counts_text : Counts → List ℕ
counts_text n = decimal n.names ++ (codes " names, " ++ (decimal n.runs ++ (codes " runs, " ++ (decimal n.edits ++ codes " edits"))))
