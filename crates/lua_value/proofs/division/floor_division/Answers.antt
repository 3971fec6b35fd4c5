use Rattle.std.proofs.Common.{◌≡◌, ◌≢◌, ◌≤◌, ◌*ℤ◌, ◌-ℤ◌, ℤ, pos, unsigned_abs, arith, w64, to_z, of_z, SFits, ◌∙◌, refl, rules}
use Rattle.std.proofs.lemmas.Int.{to_z-of_z, fits_signed_from_abs}
use Rattle.lua_value.specs.Num.{IsNum}
use Rattle.lua_value.specs.Arithmetic.{floor_quotient, floor_remainder}
use Rattle.lua_value.proofs.Rounding.{remainder_size, product_size}
use Rattle.lua_value.proofs.division.floor_division.Goals as goal

-- the value of a word
word : ℤ → ℤ
word z = to_z w64 (of_z w64 z)

module _ (a b q : ℤ) (a_fits : SFits w64 a) (b_fits : SFits w64 b) (q_fits : SFits w64 q) (a_num : IsNum a) (b_num : IsNum b)
    (nonzero : b ≢ pos 0) (rounded : q ≡ floor_quotient (word a) (word b)) where
  quotient : q ≡ floor_quotient a b
  unfolding word
  quotient = rw (to_z-of_z w64 a a_fits, to_z-of_z w64 b b_fits) at rounded

  product-fits : SFits w64 (word q *ℤ word b)
  unfolding word
  product-fits =
      rw (to_z-of_z w64 q q_fits, to_z-of_z w64 b b_fits, quotient)
      (fits_signed_from_abs w64 (floor_quotient a b *ℤ b) (omega (arith, product_size a b)))

  product : word (word q *ℤ word b) ≡ floor_quotient a b *ℤ b
  unfolding word
  product = to_z-of_z w64 _ product-fits ∙ rw (to_z-of_z w64 q q_fits, to_z-of_z w64 b b_fits, quotient) refl

  rest-fits : SFits w64 (word a -ℤ word (word q *ℤ word b))
  unfolding word
  rest-fits = rw (product, to_z-of_z w64 a a_fits) (fits_signed_from_abs w64 (floor_remainder a b) (omega (arith, remainder_size a b nonzero)))

  rest : word (word a -ℤ word (word q *ℤ word b)) ≡ floor_remainder a b
  unfolding word
  rest = to_z-of_z w64 _ rest-fits ∙ rw (product, to_z-of_z w64 a a_fits) refl

  rest_size : unsigned_abs (word (word a -ℤ word (word q *ℤ word b))) ≤ unsigned_abs b
  rest_size = rw rest (omega (arith, remainder_size a b nonzero))

pub overflow_mul-result : goal.overflow_mul-result
unfolding word
overflow_mul-result c =
    product-fits c.args.dividend c.args.divisor _ c.ranges.dividend c.ranges.divisor (search rules)
    c.requires.dividend c.requires.divisor c.requires.nonzero c.rounded_down-quotient.ensures

pub overflow_sub-result : goal.overflow_sub-result
unfolding word
overflow_sub-result c =
    rest-fits c.args.dividend c.args.divisor _ c.ranges.dividend c.ranges.divisor (search rules)
    c.requires.dividend c.requires.divisor c.requires.nonzero c.rounded_down-quotient.ensures

pub returns-clause-rest : goal.returns-clause-rest
unfolding word
returns-clause-rest c =
    rest c.args.dividend c.args.divisor _ c.ranges.dividend c.ranges.divisor (search rules)
    c.requires.dividend c.requires.divisor c.requires.nonzero c.rounded_down-quotient.ensures

pub returns-clause-rest_size : goal.returns-clause-rest_size
unfolding word
returns-clause-rest_size c =
    rest_size c.args.dividend c.args.divisor _ c.ranges.dividend c.ranges.divisor (search rules)
    c.requires.dividend c.requires.divisor c.requires.nonzero c.rounded_down-quotient.ensures
