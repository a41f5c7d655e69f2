-- What the keys are for: they keep an order, their fields are read back, and stretches hold them.
-- Primed fields are those of a second key; `d` says whether an event is a departure.
use Rattle.std.specs.Prelude.{◌≡◌, ℕ, ◌^◌, ◌<◌, ◌≤◌, Bool, true, false, ◌⊎◌, ◌↔◌}
use Rattle.run.specs.Keys.{stop_key, stop_vault, stop_minute, stop_number}
use Rattle.run.specs.Keys.{event_key, event_vault, event_minute, event_departs, event_number}
use Rattle.run.specs.Stretches.{Within, stops_of, stops_in, events_of, events_in, events_to}

-- a minute and a run number that a key takes
abbrev pub Fit : (minute number : ℕ) → Type 0
Fit minute number = (minute < 2 ^ 32) × (number < 2 ^ 16)

-- less in a field, or the same in it and before in the rest
abbrev pub Before : (less same rest : Type 0) → Type 0
Before less same rest = less ⊎ (same × rest)

-- by vault, minute and run number
abbrev pub StopBefore : (v m n v' m' n' : ℕ) → Type 0
StopBefore v m n v' m' n' = Before (v < v') (v ≡ v') (Before (m < m') (m ≡ m') (n < n'))

-- by vault, minute, arrivals before departures, and run number
abbrev pub EventBefore : (v m : ℕ) (d : Bool) (n v' m' : ℕ) (d' : Bool) (n' : ℕ) → Type 0
EventBefore v m d n v' m' d' n' =
    Before (v < v') (v ≡ v') (Before (m < m') (m ≡ m') (Before ((d ≡ false) × (d' ≡ true)) (d ≡ d') (n < n')))

-- a key is less exactly if its fields come before
pub record KeysKeepOrder : Type 0 where
  pub stops : (v m n v' m' n' : ℕ) → Fit m n → Fit m' n' → ((stop_key v m n < stop_key v' m' n') ↔ StopBefore v m n v' m' n')
  pub events : (v m : ℕ) (d : Bool) (n v' m' : ℕ) (d' : Bool) (n' : ℕ) → Fit m n → Fit m' n' → ((event_key v m d n < event_key v' m' d' n') ↔ EventBefore v m d n v' m' d' n')

-- equal keys have equal fields
pub record KeysOneToOne : Type 0 where
  pub stops : (v m n v' m' n' : ℕ) → Fit m n → Fit m' n' → stop_key v m n ≡ stop_key v' m' n' → (v ≡ v') × (m ≡ m') × (n ≡ n')
  pub events : (v m : ℕ) (d : Bool) (n v' m' : ℕ) (d' : Bool) (n' : ℕ) → Fit m n → Fit m' n' → event_key v m d n ≡ event_key v' m' d' n' → (v ≡ v') × (m ≡ m') × (d ≡ d') × (n ≡ n')

pub record KeysReadBack : Type 0 where
  pub stop_vault_lem : (v m n : ℕ) → v < 2 ^ 8 → Fit m n → stop_vault (stop_key v m n) ≡ v
  pub stop_minute_lem : (v m n : ℕ) → Fit m n → stop_minute (stop_key v m n) ≡ m
  pub stop_number_lem : (v m n : ℕ) → Fit m n → stop_number (stop_key v m n) ≡ n
  pub event_vault_lem : (v m : ℕ) (d : Bool) (n : ℕ) → v < 2 ^ 8 → Fit m n → event_vault (event_key v m d n) ≡ v
  pub event_minute_lem : (v m : ℕ) (d : Bool) (n : ℕ) → Fit m n → event_minute (event_key v m d n) ≡ m
  pub event_departs_lem : (v m : ℕ) (d : Bool) (n : ℕ) → Fit m n → event_departs (event_key v m d n) ≡ d
  pub event_number_lem : (v m : ℕ) (d : Bool) (n : ℕ) → Fit m n → event_number (event_key v m d n) ≡ n

-- a stretch in the vault v holds a key in the vault w exactly if w is v, and the minute is within
pub record StretchesHold : Type 0 where
  pub stops_of_lem : (v w m n : ℕ) → Fit m n → (Within (stop_key w m n) (stops_of v) ↔ (w ≡ v))
  pub stops_in_lem : (v first last w m n : ℕ) → last < 2 ^ 32 → Fit m n → (Within (stop_key w m n) (stops_in v first last) ↔ ((w ≡ v) × (first ≤ m) × (m ≤ last)))
  pub events_of_lem : (v w m : ℕ) (d : Bool) (n : ℕ) → Fit m n → (Within (event_key w m d n) (events_of v) ↔ (w ≡ v))
  pub events_in_lem : (v first last w m : ℕ) (d : Bool) (n : ℕ) → last < 2 ^ 32 → Fit m n → (Within (event_key w m d n) (events_in v first last) ↔ ((w ≡ v) × (first ≤ m) × (m ≤ last)))
  pub events_to_lem : (v last w m : ℕ) (d : Bool) (n : ℕ) → last < 2 ^ 32 → Fit m n → (Within (event_key w m d n) (events_to v last) ↔ ((w ≡ v) × (m ≤ last)))
