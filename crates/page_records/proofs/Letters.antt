-- The letters of a name.
use Rattle.std.proofs.Common.{◌≡◌, ℕ, Bool, ◌&&◌, leb, List, Decides, refl}
use Rattle.std.specs.Prelude.{All}
use Rattle.std.proofs.lemmas.Bool.{leb-true, le-leb}
use Rattle.std.proofs.lemmas.Bool.Decides.{same_from_decides, Decides-and, Decides-by_and}
use Rattle.page_format.specs.Grammar.{Letter}
use Rattle.page_format.specs.Reading.{lettered}

-- a test that is true exactly where every byte is a letter
pub lettered_is : (s : List ℕ) (r : Bool) → Decides r (All Letter s) → r ≡ lettered s
lettered_is s r h =
    same_from_decides r (lettered s) h (Decides-by_and (λ b. leb 33 b && leb b 126) Letter lettered (λ b. Decides-and (leb 33 b) (leb b 126) (leb-true 33 b, le-leb 33 b) (leb-true b 126, le-leb b 126)) refl (λ _ _. refl) s)
