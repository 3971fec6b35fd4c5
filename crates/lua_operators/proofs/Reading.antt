-- A text that is read as a number, as the definitions read it.
use Rattle.std.proofs.Common.{◌≡◌, ℕ, ℤ, List, Option, Some, None, refl, sym, ◌↔◌}
use Rattle.lua_value.specs.Num.{IsNum}
use Rattle.lua_value.specs.NumberText.{ReadsAs}
use Rattle.lua_meaning.specs.Number.{read}

pub same_reading : (text : List ℕ) (found : Option ℤ)
    → ((z : ℤ) → (found ≡ Some z) ↔ (ReadsAs text z × IsNum z))
    → ((found ≡ None) ↔ ((z : ℤ) → ReadsAs text z → ¬ IsNum z))
    → ((text : List ℕ) (z : ℤ) → (read text ≡ Some z) ↔ (ReadsAs text z × IsNum z))
    → found ≡ read text
same_reading text (Some z) some none law = sym ((law text z).1 ((some z).0 refl))
same_reading text None some none law = by (read text) refl
  where
    by : (o : Option ℤ) → read text ≡ o → None ≡ o
    by None e = refl
    by (Some z) e = let reads = (law text z).0 e in absurd (none.0 refl z reads.0 reads.1)
