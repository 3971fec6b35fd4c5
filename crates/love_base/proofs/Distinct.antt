-- Texts no two of which are alike, and files no two of which have one path.
use Rattle.std.proofs.Common.{◌≡◌, ℕ, List, [], ◌∷◌, false, nat_eq, ◌∙◌, sym, subst}
use Rattle.std.specs.List.{AllByRecursion, IsDistinct}
use Rattle.std.specs.List.Retain.{IsFiltered, DiffersFromLast}
use Rattle.std.specs.List.Sorted.{IsSorted, IsStrictlySortedBy}
use Rattle.std.specs.Ordering.{nat_cmp, eq_by_cmp}
use Rattle.std.specs.Cmp.Lexicographic.{pointwise, slice_cmp, texts_ties}
use Rattle.std.proofs.lemmas.Cmp.{nat_list_cmp_total}
use Rattle.std.proofs.lemmas.List.Filters.{dedup_is}
use Rattle.std.proofs.lemmas.List.Kept.{IsStrictlySortedBy-dedup}
use Rattle.std.proofs.lemmas.Map.Keys.{IsDistinct-from_sorted}
use Rattle.love_base.specs.Folder.{File, paths}

-- a text that the order tells from each of these isn't equal to any of them
differs_from_each : (text : List ℕ) (others : List (List ℕ)) → AllByRecursion (λ other. eq_by_cmp (slice_cmp nat_cmp) text other ≡ false) others → AllByRecursion (λ other. pointwise nat_eq text other ≡ false) others
differs_from_each text [] differs = tt
differs_from_each text (other ∷ others) differs = (texts_ties text other ∙ differs.0, differs_from_each text others differs.1)

-- texts that the order tells apart aren't equal
distinct_by_order : (texts : List (List ℕ)) → IsDistinct (eq_by_cmp (slice_cmp nat_cmp)) texts → IsDistinct (pointwise nat_eq) texts
unfolding IsDistinct
distinct_by_order [] distinct = tt
distinct_by_order (text ∷ texts) distinct = (differs_from_each text texts distinct.0, distinct_by_order texts distinct.1)

-- sorted texts from which repeated ones were dropped rise
pub rising_after_dedup : (texts kept : List (List ℕ)) → IsSorted (slice_cmp nat_cmp) texts → IsFiltered (DiffersFromLast (pointwise nat_eq)) [] texts kept → IsStrictlySortedBy (slice_cmp nat_cmp) kept
rising_after_dedup texts kept sorted filtered =
    let Rising : List (List ℕ) → Type 0 = IsStrictlySortedBy (slice_cmp nat_cmp) in
    subst Rising (sym (dedup_is (pointwise nat_eq) texts kept filtered)) (IsStrictlySortedBy-dedup nat_list_cmp_total texts_ties texts sorted)

-- they are no two alike
pub distinct_after_dedup : (texts kept : List (List ℕ)) → IsSorted (slice_cmp nat_cmp) texts → IsFiltered (DiffersFromLast (pointwise nat_eq)) [] texts kept → IsDistinct (pointwise nat_eq) kept
distinct_after_dedup texts kept sorted filtered =
    distinct_by_order kept (IsDistinct-from_sorted (slice_cmp nat_cmp) kept (rising_after_dedup texts kept sorted filtered))

-- files none of which is there have no two paths alike
pub no_files_differ : (files : List File) → files ≡ [] → IsDistinct (pointwise nat_eq) (paths files)
unfolding IsDistinct
no_files_differ files none = subst (λ files. IsDistinct (pointwise nat_eq) (paths files)) (sym none) tt

-- nor has one file
pub one_file_differs : (files : List File) (one : File) → files ≡ one ∷ [] → IsDistinct (pointwise nat_eq) (paths files)
unfolding IsDistinct
one_file_differs files one is = subst (λ files. IsDistinct (pointwise nat_eq) (paths files)) (sym is) (tt, tt)

-- nor have two files whose paths aren't equal
pub two_files_differ : (files : List File) (one other : File) → files ≡ one ∷ other ∷ [] → pointwise nat_eq one.0 other.0 ≡ false → IsDistinct (pointwise nat_eq) (paths files)
unfolding IsDistinct
two_files_differ files one other are differ = subst (λ files. IsDistinct (pointwise nat_eq) (paths files)) (sym are) ((differ, tt), (tt, tt))
