-- A page that is read record by record.
use Rattle.std.specs.Prelude.{ℕ, zero, suc, List, [], ◌∷◌, drop, Some, None, Ok, Err, Option, Result}
use Rattle.fault.specs.declared.Section.{Section}
use Rattle.fault.specs.declared.Section.TheVariants.{Names, Runs, Edits}
use Rattle.fault.specs.declared.Located.{Located}
use Rattle.page_format.specs.declared.Counts.{Counts}
use Rattle.page_format.specs.Grammar.{Item, limit}
use Rattle.page_format.specs.Reading.{after, at_end, record_item}
use Rattle.page_records.specs.declared.cursor.Cursor.{Cursor}
use Rattle.page_records.specs.Steps.{next_size, opening, moved}

-- go on with a size, and stop where there is none
abbrev pub by_some : {R : Type 0} → Option ℕ → R → (ℕ → R) → R
by_some None stop go = stop
by_some (Some size) stop go = go size

-- the same where a fault stops too
abbrev pub handed : {R : Type 0} → Result (Option ℕ) Located → R → (ℕ → R) → R
handed (Ok o) stop go = by_some o stop go
handed (Err e) stop go = stop

-- the cursor after at most n calls of `next`, up to the first that answers none; or the fault of the first that is refused
unfoldable pub walked : Section → List ℕ → ℕ → Cursor → Result Cursor Located
walked x p zero c = Ok c
walked x p (suc n) c = after (next_size x p c) (λ o. by_some o (Ok c) (λ size. walked x p n (moved c size)))

-- a reader at the opening of a section, asked for its records to the end
unfoldable pub to_end : Section → List ℕ → ℕ → Result Cursor Located
to_end x p start = walked x p (limit x) (opening x p start)

-- a page read record by record: as many records as the readers handed out, or the first fault that they told
abbrev pub walked_page : List ℕ → Result Counts Located
walked_page p =
    after (to_end Names p 0) (λ a.
    after (to_end Runs p a.at) (λ b.
    after (to_end Edits p b.at) (λ c.
    after (at_end p c.at) (λ _.
    Ok (record { names = a.read; runs = b.read; edits = c.read })))))

-- what the records say that a reader hands out in at most n calls of `next`, up to the first that hands out none
unfoldable pub gathered : (x : Section) → List ℕ → ℕ → Cursor → List (Item x)
gathered x p zero c = []
gathered x p (suc n) c = handed (next_size x p c) [] (λ size. record_item x (drop c.at p) ∷ gathered x p n (moved c size))
