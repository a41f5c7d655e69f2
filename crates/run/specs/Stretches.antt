-- Stretches of keys.
use Rattle.std.specs.Prelude.{ℕ, ◌+◌, ◌<◌, ◌≤◌, false}
use Rattle.run.specs.Keys.{stop_key, event_key}
use Rattle.run.specs.declared.stretch.Stretch.{Stretch}

abbrev pub Within : ℕ → Stretch → Type 0
Within key s = (s.lo ≤ key) × (key < s.hi)

-- a vault's stops: up to the first of the next vault
abbrev pub stops_of : (vault : ℕ) → Stretch
stops_of vault = record { lo = stop_key vault 0 0; hi = stop_key (vault + 1) 0 0 }

-- from the minute `first` to the minute `last`: up to the first of the minute after
abbrev pub stops_in : (vault first last : ℕ) → Stretch
stops_in vault first last = record { lo = stop_key vault first 0; hi = stop_key vault (last + 1) 0 }

abbrev pub events_of : (vault : ℕ) → Stretch
events_of vault = record { lo = event_key vault 0 false 0; hi = event_key (vault + 1) 0 false 0 }

abbrev pub events_in : (vault first last : ℕ) → Stretch
events_in vault first last =
    record { lo = event_key vault first false 0; hi = event_key vault (last + 1) false 0 }

abbrev pub events_to : (vault last : ℕ) → Stretch
events_to vault last = record { lo = event_key vault 0 false 0; hi = event_key vault (last + 1) false 0 }
