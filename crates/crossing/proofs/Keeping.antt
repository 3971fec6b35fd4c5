-- What a heap keeps at each step of unpacking.
use Rattle.std.proofs.Common.{◌≡◌, ℕ, zero, suc, ◌≤◌, List, [], ◌∷◌, ◌++◌, length, take, refl, sym, ap, subst, ◌∙◌, arith}
use Rattle.std.specs.Prelude.{slice_set, Result, Ok, Err, OnOk, OnErr}
use Rattle.std.proofs.lemmas.List.{length-map}
use Rattle.love_base.specs.Data.{Contents}
use Rattle.lua_meaning.specs.Value as meant
use Rattle.lua_meaning.specs.Store.{Store, add_table, add_contents, raw_set}
use Rattle.lua_heap.specs.Heap.{HeapView, store_of, table_view, Becomes, Extends}
use Rattle.lua_heap.proofs.Callers.{Extends-same, Extends-trans}
use Rattle.crossing.specs.Unpacked.{Keeps}

-- ---- first items

take-before : {X : Type 0} → (n : ℕ) (xs ys : List X) → n ≤ length xs → take n (xs ++ ys) ≡ take n xs
take-before zero xs ys within = refl
take-before (suc n) [] ys within = absurd (omega arith)
take-before (suc n) (x ∷ xs) ys within = ap (λ zs. x ∷ zs) (take-before n xs ys (omega arith))

take-set : {X : Type 0} → (n : ℕ) (xs : List X) (x : X) → take n (slice_set xs n x) ≡ take n xs
take-set zero xs x = refl
take-set (suc n) [] x = refl
take-set (suc n) (y ∷ xs) x = ap (λ zs. y ∷ zs) (take-set n xs x)

take-fewer : {X : Type 0} → (m n : ℕ) (xs : List X) → m ≤ n → take m (take n xs) ≡ take m xs
take-fewer zero n xs fewer = refl
take-fewer (suc m) zero xs fewer = absurd (omega arith)
take-fewer (suc m) (suc n) [] fewer = refl
take-fewer (suc m) (suc n) (x ∷ xs) fewer = ap (λ zs. x ∷ zs) (take-fewer m n xs (omega arith))

-- ---- heaps

pub Keeps-store : (n : ℕ) (f g : HeapView) → store_of g ≡ store_of f → g.functions ≡ f.functions → Extends f g → Keeps n f g
Keeps-store n f g same functions more =
    record { tables = ap (λ (s : Store). take n s.tables) same; cells = ap (λ (s : Store). s.cells) same; functions = functions; extends = more }

pub Keeps-same : (n : ℕ) (f g : HeapView) → g ≡ f → Keeps n f g
Keeps-same n f g same = Keeps-store n f g (ap (λ h. store_of h) same) (ap (λ (h : HeapView). h.functions) same) (subst (λ k. Extends f k) (sym same) (Extends-same f))

pub Keeps-trans : (n : ℕ) (f g h : HeapView) → Keeps n f g → Keeps n g h → Keeps n f h
Keeps-trans n f g h p q = record { tables = q.tables ∙ p.tables; cells = q.cells ∙ p.cells; functions = q.functions ∙ p.functions; extends = Extends-trans f g h p.extends q.extends }

pub Keeps-fewer : (m n : ℕ) (f g : HeapView) → m ≤ n → Keeps n f g → Keeps m f g
Keeps-fewer m n f g fewer p =
    record {
      tables = sym (take-fewer m n (store_of g).tables fewer) ∙ ap (take m) p.tables ∙ take-fewer m n (store_of f).tables fewer;
      cells = p.cells;
      functions = p.functions;
      extends = p.extends;
    }

pub Keeps-add_table : (n : ℕ) (f g : HeapView) → n ≤ length f.tables → Becomes f g add_table → Extends f g → Keeps n f g
Keeps-add_table n f g within becomes more =
    let size : length (store_of f).tables ≡ length f.tables = length-map f.tables (table_view f.texts) in
    record {
      tables = ap (λ (s : Store). take n s.tables) becomes.store ∙ take-before n (store_of f).tables _ (omega (arith, within, size));
      cells = ap (λ (s : Store). s.cells) becomes.store;
      functions = becomes.functions;
      extends = more;
    }

pub Keeps-add_contents : (n : ℕ) (f g : HeapView) (made : Contents) → Becomes f g (λ s. add_contents s made) → Extends f g → Keeps n f g
Keeps-add_contents n f g made becomes more =
    record {
      tables = ap (λ (s : Store). take n s.tables) becomes.store;
      cells = ap (λ (s : Store). s.cells) becomes.store;
      functions = becomes.functions;
      extends = more;
    }

pub Keeps-raw_set : (t : ℕ) (f g : HeapView) (key value : meant.Value) → Becomes f g (λ s. raw_set s t key value) → Extends f g → Keeps t f g
Keeps-raw_set t f g key value becomes more =
    record {
      tables = ap (λ (s : Store). take t s.tables) becomes.store ∙ take-set t (store_of f).tables _;
      cells = ap (λ (s : Store). s.cells) becomes.store;
      functions = becomes.functions;
      extends = more;
    }

-- a value was set, or nothing was
pub Keeps-set : {A E : Type 0} → (t : ℕ) (f g : HeapView) (key value : meant.Value) (r : Result A E) → OnOk r (Becomes f g (λ s. raw_set s t key value)) → OnErr r (g ≡ f) → Extends f g → Keeps t f g
Keeps-set t f g key value (Ok a) becomes same more = Keeps-raw_set t f g key value becomes more
Keeps-set t f g key value (Err e) becomes same more = Keeps-same t f g same

pub set-store : {A E : Type 0} → (f g : HeapView) (change : Store → Store) (r : Result A E) → OnOk r (Becomes f g change) → OnOk r (store_of g ≡ change (store_of f))
set-store f g change (Ok a) becomes = becomes.store
set-store f g change (Err e) becomes = tt
