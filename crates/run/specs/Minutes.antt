-- The minutes that count.
use Rattle.std.specs.Prelude.{ℕ}
use Rattle.run.specs.declared.Run.{Run}

-- the minute at which a run's arrival counts at its to-vault
abbrev pub arrival_minute : Run → ℕ
arrival_minute r = r.end
