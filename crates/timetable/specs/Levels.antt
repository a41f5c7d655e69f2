-- The deficit function of a vault: level, need, critical minute, total. T is a timetable, v a vault, t a minute.
use Rattle.std.specs.Prelude.{◌≡◌, ℕ, zero, suc, ◌+◌, ◌-◌, ◌<◌, max, Bool, ◌&&◌, ◌⊎◌, List, map, ℤ, pos, ◌-ℤ◌, ◌≤ℤ◌, Some, None, fold, count_by, Option, ◌==◌, ◌≢◌, nat_le}
use Rattle.run.specs.declared.Run.{Run}
use Rattle.run.specs.Minutes.{arrival_minute}

-- is r a departure of v with start ≤ t
abbrev pub departs_by : ℕ → ℕ → Run → Bool
departs_by v t r = r.from == v && nat_le r.start t

-- is r an arrival of v with arrival minute ≤ t
abbrev pub arrives_by : ℕ → ℕ → Run → Bool
arrives_by v t r = r.to == v && nat_le (arrival_minute r) t

-- how many departures of v have start ≤ t
abbrev pub departures : List Run → ℕ → ℕ → ℕ
departures T v t = count_by (departs_by v t) T

-- how many arrivals of v have arrival minute ≤ t
abbrev pub arrivals : List Run → ℕ → ℕ → ℕ
arrivals T v t = count_by (arrives_by v t) T

-- the level of v at t: its departures with start ≤ t minus its arrivals with arrival minute ≤ t, a signed number
abbrev pub level : List Run → ℕ → ℕ → ℤ
level T v t = pos (departures T v t) -ℤ pos (arrivals T v t)

-- n is the need of v: its highest level over all minutes, and at least 0
pub record Need (T : List Run) (v n : ℕ) : Type 0 where
  pub none_above : (t : ℕ) → level T v t ≤ℤ pos n
  pub reached : (n ≡ 0) ⊎ ((t : ℕ) × (level T v t ≡ pos n))

-- m is the critical minute of v, whose need is n: the first minute whose level equals the need
pub record Critical (T : List Run) (v n m : ℕ) : Type 0 where
  pub equals : level T v m ≡ pos n
  pub first : (t : ℕ) → t < m → level T v t ≢ pos n

-- the minute that is answered with the need n: none when it is 0, else the critical minute
abbrev pub MinuteOf : List Run → ℕ → ℕ → Option ℕ → Type 0
MinuteOf T v n None = n ≡ 0
MinuteOf T v n (Some m) = (0 < n) × Critical T v n m

-- the answer to a question for the need of v: a pair, the figure and the critical minute
pub record NeedAnswer (T : List Run) (v : ℕ) (answer : ℕ × Option ℕ) : Type 0 where
  pub figure : Need T v answer.0
  pub minute : MinuteOf T v answer.0 answer.1

-- need v is the need of v, for every vault v
abbrev pub Needs : List Run → (ℕ → ℕ) → Type 0
Needs T need = (v : ℕ) → Need T v (need v)

-- the need of v as a figure to be computed: the highest of 0 and the levels at the minutes at which runs start
abbrev pub need_of : List Run → ℕ → ℕ
need_of T v = fold max 0 (map (λ r. departures T v r.start - arrivals T v r.start) T)

-- the sum of the needs of the vaults 0 to k - 1
abbrev pub sum_of : (ℕ → ℕ) → ℕ → ℕ
sum_of need zero = 0
sum_of need (suc k) = sum_of need k + need k

-- the total: the sum of the needs of all vaults, those below k
abbrev pub total : List Run → ℕ → ℕ
total T k = sum_of (need_of T) k
