-- Keys as numbers, and their fields.
use Rattle.std.specs.Prelude.{ℕ, ◌+◌, ◌*◌, ◌/◌, ◌%◌, ◌^◌, Bool, true, false, ◌==◌}
use Rattle.run.specs.Minutes.{arrival_minute}
use Rattle.run.specs.declared.Run.{Run}
use Rattle.run.specs.declared.kinds.Event.{Event}
use Rattle.run.specs.declared.kinds.Event.TheVariants.{Arrival, Departure}

-- of a departure among departures, or an arrival among arrivals: 32 bits of minute, 16 bits of number
abbrev pub stop_key : (vault minute number : ℕ) → ℕ
stop_key vault minute number = vault * 2 ^ 48 + minute * 2 ^ 16 + number

abbrev pub kind_bit : Bool → ℕ
kind_bit true = 1
kind_bit false = 0

-- of a departure or an arrival among both: the bit of its kind stands above the number
abbrev pub event_key : (vault minute : ℕ) (departs : Bool) (number : ℕ) → ℕ
event_key vault minute departs number = vault * 2 ^ 49 + minute * 2 ^ 17 + kind_bit departs * 2 ^ 16 + number

abbrev pub is_departure : Event → Bool
is_departure Arrival = false
is_departure Departure = true

-- in a layout of so many kinds: the kind's place among them stands above the number
abbrev pub packed : (kinds vault minute place number : ℕ) → ℕ
packed kinds vault minute place number =
    vault * (kinds * 2 ^ 48) + minute * (kinds * 2 ^ 16) + place * 2 ^ 16 + number

abbrev pub departure_key : Run → ℕ
departure_key r = stop_key r.from r.start r.number

abbrev pub arrival_key : Run → ℕ
arrival_key r = stop_key r.to (arrival_minute r) r.number

abbrev pub departure_event : Run → ℕ
departure_event r = event_key r.from r.start true r.number

abbrev pub arrival_event : Run → ℕ
arrival_event r = event_key r.to (arrival_minute r) false r.number

-- the fields of a stop's key
abbrev pub stop_vault : ℕ → ℕ
stop_vault key = key / 2 ^ 48 % 2 ^ 8

abbrev pub stop_minute : ℕ → ℕ
stop_minute key = key / 2 ^ 16 % 2 ^ 32

abbrev pub stop_number : ℕ → ℕ
stop_number key = key % 2 ^ 16

-- the fields of an event's key
abbrev pub event_vault : ℕ → ℕ
event_vault key = key / 2 ^ 49 % 2 ^ 8

abbrev pub event_minute : ℕ → ℕ
event_minute key = key / 2 ^ 17 % 2 ^ 32

abbrev pub event_departs : ℕ → Bool
event_departs key = key / 2 ^ 16 % 2 == 1

abbrev pub event_number : ℕ → ℕ
event_number key = key % 2 ^ 16
