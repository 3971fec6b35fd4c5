-- The constants of the running function.
use Rattle.std.proofs.Common.{◌≡◌, ℕ, zero, suc, ◌<◌, List, [], ◌∷◌, length, refl, sym, ap, ◌∙◌, slice_get, arith}
use Rattle.std.specs.Prelude.{unwrap_or, map}
use Rattle.std.specs.List.{AllByRecursion}
use Rattle.std.proofs.lemmas.List.{length-map}
use Rattle.lua_tree.specs.Tree.{Bytes}
use Rattle.lua_meaning.specs.Value as meant
use Rattle.lua_heap.specs.declared.value.Value.{Value}
use Rattle.lua_heap.specs.declared.value.Value.TheVariants.{Nil}
use Rattle.lua_heap.specs.Value.{value_view}
use Rattle.lua_heap.specs.Heap.{HeapView, IsMade}
use Rattle.lua_code.specs.declared.constant.Constant.TheVariants as constants
use Rattle.lua_code.specs.View.{constant_view, constant_at}
use Rattle.lua_machine.specs.declared.chunk.Chunk.{Chunk}
use Rattle.lua_machine.specs.View.{EngineView, protos_at, no_proto}
use Rattle.lua_machine.specs.Made.{AreMade, IsMadeChunk, IsEngine}
use Rattle.lua_machine.specs.Constants.{constants_of, constants_at, constant_in, HasConstant}
use Rattle.lua_machine.specs.Ready.{IsLoaded, constants_view, IsReady}
use Rattle.lua_machine.proofs.Doing.{made_at}

map_at : {A B : Type 0} (f : A → B) (xs : List A) (n : ℕ) (d : A) → unwrap_or (slice_get (map f xs) n) (f d) ≡ f (unwrap_or (slice_get xs n) d)
map_at f [] n d = refl
map_at f (x ∷ xs) zero d = refl
map_at f (x ∷ xs) (suc n) d = map_at f xs n d

chunk_known : (chunks : List Chunk) (k j : ℕ) → j < length (protos_at chunks k) → k < length chunks
chunk_known [] k j lt = absurd (let e : ⊥ = omega (arith, lt) in e)
chunk_known (x ∷ chunks) zero j lt = omega arith
chunk_known (x ∷ chunks) (suc k) j lt = let l = chunk_known chunks k j lt in omega (arith, l)

constants_same : (texts : List Bytes) (chunks : List Chunk) (k : ℕ) → AllByRecursion (IsLoaded texts) chunks → map (map (value_view texts)) (constants_of (slice_get chunks k)) ≡ map constants_view (protos_at chunks k)
constants_same texts [] k all = refl
constants_same texts (x ∷ chunks) zero all = all.0.constants
constants_same texts (x ∷ chunks) (suc k) all = constants_same texts chunks k all.1

lists_made : (h : HeapView) (chunks : List Chunk) (k : ℕ) → AllByRecursion (IsMadeChunk h) chunks → AllByRecursion (AreMade h) (constants_of (slice_get chunks k))
lists_made h [] k all = tt
lists_made h (x ∷ chunks) zero all = all.0
lists_made h (x ∷ chunks) (suc k) all = lists_made h chunks k all.1

list_made : (h : HeapView) (lists : List (List Value)) (j : ℕ) → AllByRecursion (AreMade h) lists → AreMade h (unwrap_or (slice_get lists j) [])
list_made h [] j all = tt
list_made h (vs ∷ lists) zero all = all.0
list_made h (vs ∷ lists) (suc j) all = list_made h lists j all.1

pub constant_made : (m : EngineView) (n : ℕ) → IsEngine m → HasConstant m n → IsMade m.heap (constant_in m n)
constant_made m n is has =
    made_at m.heap (constants_at m.chunks m.chunk m.func) n has.constant
    (list_made m.heap (constants_of (slice_get m.chunks m.chunk)) m.func (lists_made m.heap m.chunks m.chunk is.chunks))

module _ (m : EngineView) (r : IsReady m) where
  same : map (map (value_view m.heap.texts)) (constants_of (slice_get m.chunks m.chunk)) ≡ map constants_view (protos_at m.chunks m.chunk)
  same = constants_same m.heap.texts m.chunks m.chunk r.fit.chunks

  row : map (value_view m.heap.texts) (constants_at m.chunks m.chunk m.func) ≡ constants_view m.proto
  row =
      sym (map_at (map (value_view m.heap.texts)) (constants_of (slice_get m.chunks m.chunk)) m.func [])
      ∙ ap (λ (vs : List (List meant.Value)). unwrap_or (slice_get vs m.func) []) same
      ∙ map_at constants_view (protos_at m.chunks m.chunk) m.func no_proto
      ∙ ap constants_view (sym r.proto)

  -- a constant's value is that of the code
  pub constant_is : (n : ℕ) → value_view m.heap.texts (constant_in m n) ≡ constant_at m.proto.constants n
  constant_is n =
      sym (map_at (value_view m.heap.texts) (constants_at m.chunks m.chunk m.func) n Nil)
      ∙ ap (λ (vs : List meant.Value). unwrap_or (slice_get vs n) meant.nil) row
      ∙ map_at constant_view m.proto.constants n constants.Nil

  pub has_constant : (n : ℕ) → n < length m.proto.constants → HasConstant m n
  has_constant n lt =
      let known = r.placed.known in
      let lists : length (constants_of (slice_get m.chunks m.chunk)) ≡ length (protos_at m.chunks m.chunk) =
      sym (length-map (constants_of (slice_get m.chunks m.chunk)) (map (value_view m.heap.texts)))
      ∙ ap (λ (vs : List (List meant.Value)). length vs) same
      ∙ length-map (protos_at m.chunks m.chunk) constants_view in
      let long : length (constants_at m.chunks m.chunk m.func) ≡ length m.proto.constants =
      sym (length-map (constants_at m.chunks m.chunk m.func) (value_view m.heap.texts))
      ∙ ap (λ (vs : List meant.Value). length vs) row
      ∙ length-map m.proto.constants constant_view in
      record {
        chunk = chunk_known m.chunks m.chunk m.func known;
        func = omega (arith, known, lists);
        constant = omega (arith, lt, long);
      }
