-- The worked table, by computation.
use Rattle.std.proofs.Common.{refl, arith}
use Rattle.std.specs.List.{ContainsAt as Has, AllByRecursion as All}
use Rattle.std.proofs.ByRecursion.{all-has}
use Rattle.timetable.specs.Table.{five}
use Rattle.timetable.proofs.Table.{worked_table}
use Rattle.figures.specs.Listed.{events, departures, arrivals, ListsEvents, ListsDepartures, ListsArrivals, Keyed}
use Rattle.figures.specs.Table.{events_of_five, departures_of_five, arrivals_of_five, WholeTable}

keyed_five : Keyed five
keyed_five = record {
  apart = worked_table.numbers_apart;
  fit = (
    record { start = omega arith; arrival = omega arith; number = omega arith },
    (
      record { start = omega arith; arrival = omega arith; number = omega arith },
      (
        record { start = omega arith; arrival = omega arith; number = omega arith },
        (
          record { start = omega arith; arrival = omega arith; number = omega arith },
          (record { start = omega arith; arrival = omega arith; number = omega arith }, tt),
        ),
      ),
    ),
  );
}

events_all : All (Has events_of_five) (events five)
events_all = (
  (0, omega arith, λ d. refl),
  (
    (8, omega arith, λ d. refl),
    (
      (1, omega arith, λ d. refl),
      (
        (6, omega arith, λ d. refl),
        (
          (7, omega arith, λ d. refl),
          (
            (2, omega arith, λ d. refl),
            (
              (9, omega arith, λ d. refl),
              (
                (4, omega arith, λ d. refl),
                ((3, omega arith, λ d. refl), ((5, omega arith, λ d. refl), tt)),
              ),
            ),
          ),
        ),
      ),
    ),
  ),
)

events_only : All (Has (events five)) events_of_five
events_only = (
  (0, omega arith, λ d. refl),
  (
    (2, omega arith, λ d. refl),
    (
      (5, omega arith, λ d. refl),
      (
        (8, omega arith, λ d. refl),
        (
          (7, omega arith, λ d. refl),
          (
            (9, omega arith, λ d. refl),
            (
              (3, omega arith, λ d. refl),
              (
                (4, omega arith, λ d. refl),
                ((1, omega arith, λ d. refl), ((6, omega arith, λ d. refl), tt)),
              ),
            ),
          ),
        ),
      ),
    ),
  ),
)

departures_all : All (Has departures_of_five) (departures five)
departures_all = ((0, omega arith, λ d. refl), ((1, omega arith, λ d. refl), ((3, omega arith, λ d. refl), ((4, omega arith, λ d. refl), ((2, omega arith, λ d. refl), tt)))))

departures_only : All (Has (departures five)) departures_of_five
departures_only = ((0, omega arith, λ d. refl), ((1, omega arith, λ d. refl), ((4, omega arith, λ d. refl), ((2, omega arith, λ d. refl), ((3, omega arith, λ d. refl), tt)))))

arrivals_all : All (Has arrivals_of_five) (arrivals five)
arrivals_all = ((4, omega arith, λ d. refl), ((3, omega arith, λ d. refl), ((0, omega arith, λ d. refl), ((1, omega arith, λ d. refl), ((2, omega arith, λ d. refl), tt)))))

arrivals_only : All (Has (arrivals five)) arrivals_of_five
arrivals_only = ((2, omega arith, λ d. refl), ((3, omega arith, λ d. refl), ((4, omega arith, λ d. refl), ((1, omega arith, λ d. refl), ((0, omega arith, λ d. refl), tt)))))

pub events_listed : ListsEvents five events_of_five
events_listed = record { rising = refl; all = λ e h. all-has (Has events_of_five) (events five) e events_all h; only = λ e h. all-has (Has (events five)) events_of_five e events_only h }

departures_listed : ListsDepartures five departures_of_five
departures_listed = record { rising = refl; all = λ e h. all-has (Has departures_of_five) (departures five) e departures_all h; only = λ e h. all-has (Has (departures five)) departures_of_five e departures_only h }

arrivals_listed : ListsArrivals five arrivals_of_five
arrivals_listed = record { rising = refl; all = λ e h. all-has (Has arrivals_of_five) (arrivals five) e arrivals_all h; only = λ e h. all-has (Has (arrivals five)) arrivals_of_five e arrivals_only h }

pub whole_table : WholeTable
whole_table = record {
  departure_then_arrival = refl;
  arrival_then_departure = refl;
  runs = worked_table;
  keyed = keyed_five;
  events_listed = events_listed;
  departures_listed = departures_listed;
  arrivals_listed = arrivals_listed;
  need_read_of_0 = refl;
  need_read_of_1 = refl;
  levels_read_of_0 = refl;
  levels_read_of_1 = refl;
  leaving_read = refl;
  coming_read = refl;
  seam_of_box_1 = refl;
  seam_of_box_2 = refl;
}
