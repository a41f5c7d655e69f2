-- A page is accepted just where it is the bytes of a lawful page.
use Rattle.std.proofs.Common.{◌≡◌, ℕ, List, Ok, Err, Result, refl, ap, arith, MatchResult}
use Rattle.fault.specs.declared.Located.{Located}
use Rattle.page_format.specs.Grammar.{Content}
use Rattle.page_format.specs.Reading.{reading}
use Rattle.page_format.specs.Laws.{Bytes}
use Rattle.page_format.proofs.Pages.{reads_back, writes_back, places_within}
use Rattle.page.specs.Wholes.{tallied, Encodes, NoPage}

-- bytes that are not read whole are those of no page
no_page : (p : List ℕ) (e : Located) → reading p ≡ Err e → NoPage p e
no_page p e h =
    record {
      none = λ c l q. (let b = reads_back c l in let r = ap reading q in let z : ◌≡◌ {A = ℕ} 0 1 = cc in omega arith);
      within = places_within p e h;
    }

pub exactly : (p : List ℕ) → Bytes p → MatchResult (tallied (reading p)) (λ n. Encodes p n) (λ e. NoPage p e)
exactly p b = known (reading p) refl
  where
    known : (r : Result Content Located) → reading p ≡ r → MatchResult (tallied r) (λ n. Encodes p n) (λ e. NoPage p e)
    known (Ok c) h = let w = writes_back p c b h in (c, w.0, w.1, refl)
    known (Err e) h = no_page p e h
