-- Digits of a base, and the number that they write.
use Rattle.std.proofs.Common.{◌≡◌, ◌≢◌, ℕ, ◌+◌, ◌*◌, ◌^◌, ◌<◌, ◌≤◌, ℤ, pos, Bool, true, false, cond, nat_le, Option, Some, None, List, ◌++◌, length, get_or, take, drop, take-append-drop, arith, ap, refl, sym, ◌∙◌}
use Rattle.std.proofs.Math.Nat.{one-le-pow, le-mul_of_pos_right}
use Rattle.std.proofs.lemmas.Bool.{cond-false, lt-leb, false_from_ne_true}
use Rattle.std.proofs.lemmas.Int.Digits.{digits_value_more}
use Rattle.std.specs.Char.{digit_value}
use Rattle.std.specs.Option.{option_and_then}
use Rattle.std.specs.Str.Parse.{AllDigits, digits_value}
use Rattle.lua_value.proofs.DigitLemmas.{digits_value-append}
use Rattle.lua_meaning.specs.Number.{kept, are_some_digits, digits_number}
use Rattle.lua_lib.proofs.Scales.{are_some-parts, digits_number-some}

none_without : (base : ℕ) (ds : List ℕ) → are_some_digits base ds ≡ false → None ≡ option_and_then kept (digits_number base ds)
none_without base ds e =
    ap (option_and_then kept) (sym (cond-false (are_some_digits base ds) (Some (pos (digits_value base ds))) None e))

pub none-other : (base : ℕ) (ds : List ℕ) → (AllDigits base ds → ⊥) → None ≡ option_and_then kept (digits_number base ds)
none-other base ds h = none_without base ds (false_from_ne_true (are_some_digits base ds) (λ e. h (are_some-parts base ds e).1))

-- the number that digits at the front write is at most that of all
front-le : (base : ℕ) (ds : List ℕ) (i : ℕ) → 2 ≤ base → digits_value base (take i ds) ≤ digits_value base ds
front-le base ds i h =
    let back = drop i ds in
    let some : 1 ≤ base ^ length back = one-le-pow (length back) base (omega arith) in
    let whole : digits_value base (take i ds ++ back) ≡ digits_value base ds = ap (digits_value base) (take-append-drop i ds) in
    omega (
      arith,
      digits_value-append base (take i ds) back,
      whole,
      le-mul_of_pos_right {m = base ^ length back} (digits_value base (take i ds)) some,
    )

-- one more digit at the end
pub digits-next : (base : ℕ) (ds : List ℕ) (i n b d digit : ℕ) → i < length ds → n ≡ digits_value base (take i ds) → b ≡ base → d ≡ digit →
    digit ≡ digit_value (get_or ds i 0) → n * b + d ≡ digits_value base (take (i + 1) ds)
digits-next base ds i n b d digit h number is_base is_digit read = let more = digits_value_more base ds i h in cc

pub none-over : (base : ℕ) (ds : List ℕ) (i n : ℕ) → 2 ≤ base → n ≡ digits_value base (take i ds) → 99999999999999 < n →
    None ≡ option_and_then kept (digits_number base ds)
none-over base ds i n h e over = from (are_some_digits base ds) refl
  where
    from : (b : Bool) → are_some_digits base ds ≡ b → None ≡ option_and_then kept (cond b (Some (pos (digits_value base ds))) None)
    from true p =
        let most = front-le base ds i h in
        sym (cond-false (nat_le (digits_value base ds) 99999999999999) (Some (pos (digits_value base ds))) None
        (lt-leb (digits_value base ds) 99999999999999 (omega arith)))
    from false p = refl

pub digits-kept : (base : ℕ) (ds : List ℕ) (r : Option ℤ) (n : ℕ) → length ds ≢ 0 → AllDigits base ds → n ≡ digits_value base ds →
    r ≡ kept (pos n) → r ≡ option_and_then kept (digits_number base ds)
digits-kept base ds r n some all e is =
    is ∙ (ap (λ (m : ℕ). kept (pos m)) e ∙ ap (option_and_then kept) (sym (digits_number-some base ds (omega arith) all)))
