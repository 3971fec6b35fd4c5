-- What each step of unpacking comes to.
use Rattle.std.proofs.Common.{◌≡◌, ℕ, ℤ, Bool, ◌<◌, List, [], ◌∷◌, ◌++◌, length, map, Some, refl, sym, ap, subst, ◌∙◌, slice_get, append-nil, append_assoc, arith}
use Rattle.std.specs.Prelude.{unwrap_or, Result, IfOk}
use Rattle.std.specs.List.{AllByRecursion}
use Rattle.std.proofs.lemmas.List.{length-map}
use Rattle.love_base.specs.Data.{Contents}
use Rattle.variant.specs.declared.message.Variant.{Variant}
use Rattle.variant.specs.declared.message.Variant.TheVariants as variant
use Rattle.lua_meaning.specs.Message.{Message}
use Rattle.lua_meaning.specs.MessageView.{message_view}
use Rattle.lua_meaning.specs.Value as meant
use Rattle.lua_meaning.specs.Store.{Store, add_table, add_contents, raw_set}
use Rattle.lua_meaning.specs.Packing.{unpack, unpack_all, unpack_pair, unpack_pairs}
use Rattle.lua_heap.specs.declared.value.Value.{Value}
use Rattle.lua_heap.specs.declared.value.Value.TheVariants.{Nil, Bool as Flag, Num, Str, Table, Func, Native, Channel, Thread, Data}
use Rattle.lua_heap.specs.Value.{value_view, text_at}
use Rattle.lua_heap.specs.Heap.{HeapView, store_of, table_view, IsMade, Becomes, Extends}
use Rattle.lua_heap.proofs.Callers.{IsMade-later, value_view-later}
use Rattle.crossing.specs.Pairs.{pairs_view}
use Rattle.crossing.specs.Unpacked.{IsUnpacked, AreUnpacked, Keeps}
use Rattle.crossing.proofs.Items.{all-more, map-more}
use Rattle.crossing.proofs.Seen.{seen-Nil, seen-Bool, seen-Num, seen-Channel}
use Rattle.crossing.proofs.Keeping.{Keeps-same, Keeps-trans, Keeps-fewer, Keeps-add_table}

-- ---- values on a heap later on

pub made-later : (h k : HeapView) → Extends h k → (vs : List Value) → AllByRecursion (IsMade h) vs → AllByRecursion (IsMade k) vs
made-later h k more [] all = tt
made-later h k more (v ∷ vs) all = (IsMade-later h k more v all.0, made-later h k more vs all.1)

pub views-later : (h k : HeapView) → Extends h k → (vs : List Value) → AllByRecursion (IsMade h) vs → map (value_view k.texts) vs ≡ map (value_view h.texts) vs
views-later h k more [] all = refl
views-later h k more (v ∷ vs) all = ap (λ w. w ∷ map (value_view k.texts) vs) (value_view-later h k more v all.0) ∙ ap (λ ws. value_view h.texts v ∷ ws) (views-later h k more vs all.1)

-- ---- a table's pair

-- a pair whose key isn't nil is set
pair-set : (t : ℕ) (texts : List (List ℕ)) (key : Value) (s : Store) (value : Store → meant.Value × Store) → (key ≡ Nil → ⊥)
    → unpack_pair t (value_view texts key, s) value ≡ raw_set (value s).1 t (value_view texts key) (value s).0
pair-set t texts Nil s value is_key = absurd (is_key refl)
pair-set t texts (Flag b) s value is_key = refl
pair-set t texts (Num n) s value is_key = refl
pair-set t texts (Str id) s value is_key = refl
pair-set t texts (Table id) s value is_key = refl
pair-set t texts (Func id) s value is_key = refl
pair-set t texts (Native f) s value is_key = refl
pair-set t texts (Channel c) s value is_key = refl
pair-set t texts (Thread n) s value is_key = refl
pair-set t texts (Data id) s value is_key = refl

-- ---- single messages

pub unpacked-Nil : (h : HeapView) → IsUnpacked (message_view variant.Nil) h h Nil
unpacked-Nil h = let is = ap (λ m. unpack m (store_of h)) seen-Nil in record { value = ap (λ (r : meant.Value × Store). r.0) (sym is); store = ap (λ (r : meant.Value × Store). r.1) (sym is); made = tt }

pub unpacked-Bool : (h : HeapView) (b : Bool) → IsUnpacked (message_view (variant.Bool b)) h h (Flag b)
unpacked-Bool h b = let is = ap (λ m. unpack m (store_of h)) (seen-Bool b) in record { value = ap (λ (r : meant.Value × Store). r.0) (sym is); store = ap (λ (r : meant.Value × Store). r.1) (sym is); made = tt }

pub unpacked-Num : (h : HeapView) (n : ℤ) → IsUnpacked (message_view (variant.Num n)) h h (Num n)
unpacked-Num h n = let is = ap (λ m. unpack m (store_of h)) (seen-Num n) in record { value = ap (λ (r : meant.Value × Store). r.0) (sym is); store = ap (λ (r : meant.Value × Store). r.1) (sym is); made = tt }

pub unpacked-Channel : (h : HeapView) (c : ℕ) → IsUnpacked (message_view (variant.Channel c)) h h (Channel c)
unpacked-Channel h c = let is = ap (λ m. unpack m (store_of h)) (seen-Channel c) in record { value = ap (λ (r : meant.Value × Store). r.0) (sym is); store = ap (λ (r : meant.Value × Store). r.1) (sym is); made = tt }

text_at-is : (texts : List (List ℕ)) (id : ℕ) (text : List ℕ) → slice_get texts id ≡ Some text → text_at texts id ≡ text
text_at-is texts id text is = ap (λ o. unwrap_or o []) is

pub unpacked-text : (f g : HeapView) (text : List ℕ) (id : ℕ) → slice_get g.texts id ≡ Some text → id < length g.texts → store_of g ≡ store_of f → IsUnpacked (Message.str text) f g (Str id)
unpacked-text f g text id is made same = record { value = ap (λ t. meant.str t) (text_at-is g.texts id text is); store = same; made = made }

pub unpacked-data : (f g : HeapView) (made : Contents) (id : ℕ) → id ≡ length f.contents → id < length g.contents → Becomes f g (λ s. add_contents s made)
    → IsUnpacked (Message.datum made) f g (Data id)
unpacked-data f g made id is within becomes = record { value = ap (λ n. meant.datum n) is; store = becomes.store; made = within }

-- ---- the pairs of a table

put-done : (old mid new : HeapView) (t n : ℕ) (key v : Value) (m : Message) → IsMade old key → (key ≡ Nil → ⊥) → Keeps n old mid → IsUnpacked m old mid v
    → store_of new ≡ raw_set (store_of mid) t (value_view mid.texts key) (value_view mid.texts v)
    → store_of new ≡ unpack_pair t (value_view old.texts key, store_of old) (λ s. unpack m s)
put-done old mid new t n key v m made is_key kept is set =
    set
    ∙ ap (λ s. raw_set s t (value_view mid.texts key) (value_view mid.texts v)) is.store
    ∙ ap (λ k. raw_set (unpack m (store_of old)).1 t k (value_view mid.texts v)) (value_view-later old mid kept.extends key made)
    ∙ ap (λ w. raw_set (unpack m (store_of old)).1 t (value_view old.texts key) w) is.value
    ∙ sym (pair-set t old.texts key (store_of old) (λ s. unpack m s) is_key)

-- some pairs are in the table, and the others are to come
pub record IsFilled (first now : HeapView) (t : ℕ) (left all : List (Variant × Variant)) : Type 0 where
  pub store : unpack_pairs (pairs_view left) t (store_of now) ≡ unpack_pairs (pairs_view all) (length first.tables) (add_table (store_of first))
  pub id : t ≡ length first.tables
  pub made : t < length now.tables
  pub kept : Keeps (length first.tables) first now

pub fill-start : (first now : HeapView) (t : ℕ) (all : List (Variant × Variant)) → t ≡ length first.tables → t < length now.tables → Becomes first now add_table → Extends first now → IsFilled first now t all all
fill-start first now t all is made becomes more =
    record {
      store = ap (λ s. unpack_pairs (pairs_view all) t s) becomes.store ∙ ap (λ n. unpack_pairs (pairs_view all) n (add_table (store_of first))) is;
      id = is;
      made = made;
      kept = Keeps-add_table (length first.tables) first now (omega arith) becomes more;
    }

module _ (first h1 h2 : HeapView) (t : ℕ) (k v : Variant) (left all : List (Variant × Variant)) (filled : IsFilled first h1 t ((k, v) ∷ left) all) (key_kept : Keeps (length h1.tables) h1 h2) where
  pub fill-key : Keeps (length first.tables) first h2
  fill-key = let is = filled.id in let within = filled.made in
      Keeps-trans (length first.tables) first h1 h2 filled.kept (Keeps-fewer (length first.tables) (length h1.tables) h1 h2 (omega (arith, is, within)) key_kept)

  pub fill-made : t < length h2.tables
  fill-made = let within = filled.made in let more = key_kept.extends.tables in omega (arith, within, more)

  module _ (h3 : HeapView) (kept : Keeps t h2 h3) where
    pub fill-kept : Keeps (length first.tables) first h3
    fill-kept = Keeps-trans (length first.tables) first h2 h3 fill-key (subst (λ n. Keeps n h2 h3) filled.id kept)

    pub fill-step : (key : Value) → IsUnpacked (message_view k) h1 h2 key → store_of h3 ≡ unpack_pair t (value_view h2.texts key, store_of h2) (λ s. unpack (message_view v) s) → IsFilled first h3 t left all
    fill-step key is put =
        record {
          store =
              ap (λ s. unpack_pairs (pairs_view left) t s) (put ∙ ap (λ (r : meant.Value × Store). unpack_pair t r (λ s. unpack (message_view v) s)) (both _ _ _ is.value is.store))
              ∙ filled.store;
          id = filled.id;
          made = let within = fill-made in let more = kept.extends.tables in omega (arith, within, more);
          kept = fill-kept;
        }
      where
        both : (w : meant.Value) (s : Store) (r : meant.Value × Store) → w ≡ r.0 → s ≡ r.1 → (w, s) ≡ r
        both w s r p q = ap (λ x. (x, s)) p ∙ ap (λ x. (r.0, x)) q

  -- the key is nil
  pub fill-nil : (key : Value) → IsUnpacked (message_view k) h1 h2 key → key ≡ Nil → IsFilled first h2 t left all
  fill-nil key is nil =
      fill-step h2 (Keeps-same t h2 h2 refl) key is (sym (ap (λ w. unpack_pair t (value_view h2.texts w, store_of h2) (λ s. unpack (message_view v) s)) nil))

  -- the key isn't nil, and the value is made
  module _ (mid : HeapView) (value_kept : Keeps (length h2.tables) h2 mid) where
    value_kept_t : Keeps t h2 mid
    value_kept_t = let within = fill-made in Keeps-fewer t (length h2.tables) h2 mid (omega (arith, within)) value_kept

    pub fill-value : Keeps (length first.tables) first mid
    fill-value = fill-kept mid value_kept_t

    pub fill-value_made : t < length mid.tables
    fill-value_made = let within = fill-made in let more = value_kept.extends.tables in omega (arith, within, more)

    module _ (new : HeapView) (set_kept : Keeps t mid new) where
      pub fill-set : Keeps (length first.tables) first new
      fill-set = fill-kept new (Keeps-trans t h2 mid new value_kept_t set_kept)

      pub fill-pair : (key w : Value) → IsUnpacked (message_view k) h1 h2 key → (key ≡ Nil → ⊥) → IsUnpacked (message_view v) h2 mid w
          → store_of new ≡ raw_set (store_of mid) t (value_view mid.texts key) (value_view mid.texts w) → IsFilled first new t left all
      fill-pair key w is is_key value set =
          fill-step new (Keeps-trans t h2 mid new value_kept_t set_kept) key is (put-done h2 mid new t (length h2.tables) key w (message_view v) is.made is_key value_kept value set)

pub fill-end : (first now : HeapView) (t : ℕ) (all : List (Variant × Variant)) → IsFilled first now t [] all → IsUnpacked (Message.table (pairs_view all)) first now (Table t)
fill-end first now t all filled =
    let size : length (store_of first).tables ≡ length first.tables = length-map first.tables (table_view first.texts) in
    record {
      value = ap (λ n. meant.table n) (filled.id ∙ sym size);
      store = filled.store ∙ ap (λ n. unpack_pairs (pairs_view all) n (add_table (store_of first))) (sym size);
      made = filled.made;
    }

-- ---- values, one after the other

-- the values so far, with those to come, are all of them
pub record IsBegun (first now : HeapView) (so_far : List Value) (left all : List Variant) : Type 0 where
  pub values : map (value_view now.texts) so_far ++ (unpack_all (map message_view left) (store_of now)).0 ≡ (unpack_all (map message_view all) (store_of first)).0
  pub store : (unpack_all (map message_view left) (store_of now)).1 ≡ (unpack_all (map message_view all) (store_of first)).1
  pub made : AllByRecursion (IsMade now) so_far
  pub kept : Keeps (length first.tables) first now

module _ (first now next : HeapView) (so_far : List Value) (m : Variant) (left all : List Variant) (begun : IsBegun first now so_far (m ∷ left) all) (kept : Keeps (length now.tables) now next) where
  pub begun-kept : Keeps (length first.tables) first next
  begun-kept = let more = begun.kept.extends.tables in
      Keeps-trans (length first.tables) first now next begun.kept (Keeps-fewer (length first.tables) (length now.tables) now next (omega (arith, more)) kept)

  pub begun-step : (v : Value) → IsUnpacked (message_view m) now next v → IsBegun first next (so_far ++ v ∷ []) left all
  begun-step v is =
      record {
        values =
            ap (λ vs. vs ++ (unpack_all (map message_view left) (store_of next)).0) (map-more (value_view next.texts) so_far v)
            ∙ append_assoc (map (value_view next.texts) so_far) (value_view next.texts v ∷ []) _
            ∙ ap (λ vs. vs ++ (value_view next.texts v ∷ (unpack_all (map message_view left) (store_of next)).0)) (views-later now next kept.extends so_far begun.made)
            ∙ ap (λ w. map (value_view now.texts) so_far ++ (w ∷ (unpack_all (map message_view left) (store_of next)).0)) is.value
            ∙ ap (λ s. map (value_view now.texts) so_far ++ ((unpack (message_view m) (store_of now)).0 ∷ (unpack_all (map message_view left) s).0)) is.store
            ∙ begun.values;
        store = ap (λ s. (unpack_all (map message_view left) s).1) is.store ∙ begun.store;
        made = all-more (IsMade next) so_far v (made-later now next kept.extends so_far begun.made) is.made;
        kept = begun-kept;
      }

pub begun-end : (first now : HeapView) (so_far : List Value) (all : List Variant) → IsBegun first now so_far [] all → AreUnpacked (map message_view all) first now so_far
begun-end first now so_far all begun = record { values = sym (append-nil (map (value_view now.texts) so_far)) ∙ begun.values; store = begun.store; made = begun.made }

-- ---- messages as they are seen

pub at_message : (m n : Variant) (f g : HeapView) (v : Value) → m ≡ n → IsUnpacked (message_view n) f g v → IsUnpacked (message_view m) f g v
at_message m n f g v same is = subst (λ x. IsUnpacked (message_view x) f g v) (sym same) is

pub seen_as : {E : Type 0} → (m : Variant) (n : Message) (f g : HeapView) (r : Result Value E) → message_view m ≡ n → IfOk r (λ v. IsUnpacked n f g v) → IfOk r (λ v. IsUnpacked (message_view m) f g v)
seen_as m n f g r same is = subst (λ x. IfOk r (λ v. IsUnpacked x f g v)) (sym same) is
