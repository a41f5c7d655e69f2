-- The line in which a run is listed, without its line end.
use Rattle.std.specs.Prelude.{ℕ, List, ◌++◌, codes, decimal}
use Rattle.run.specs.declared.Run.{Run}

-- number, from, start, to, end, fittings
abbrev pub run_text : Run → List ℕ
run_text r =
    decimal r.number ++ (codes " " ++ (decimal r.from ++ (codes " " ++ (decimal r.start ++ (codes " " ++ (decimal r.to ++ (codes " " ++ (decimal r.end ++ (codes " fit " ++ decimal r.fittings)))))))))
