-- How a List holds its items, so that a type may hold a List of itself: a List is seen as the plain
-- list of its items, which lie in the one vector inside, in that order.
use mathlib.Core.Path.{◌≡◌, refl, sym}
use mathlib.Core.List.{List, []}
use mathlib.Core.Former.{Former, this, list, via, children}
use base.Stored.{code_map}
use denote.RattleType.{RattleType}
use denote.HoleLaws.{Alike}
use denote.HolePlaces.{Recodes, struct_places, laid}
use denote.Hole.Carrier.{listed, list-listed}
use denote.Hole.Fix.{over}
use denote.Param.Weighed.{Weighed, w_list}
use denote.Model.Placed.{view_places}
use Rattle.std.specs.formers.vec.Vec as vector
use Rattle.std.specs.declared.alloc.Global.{Global}
use Rattle.std.specs.contracts.alloc.Global as global
use Rattle.std.specs.contracts.impls.GlobalAllocator.TheImpl.{ghosts}
use Rattle.love_base.specs.declared.list.List.TheInside.{Inside}
use Rattle.love_base.specs.declared.list.List.TheView.{view, invariant}
use Rattle.love_base.specs.contracts.list.List as contract
use Rattle.love_base.specs.contracts.list.List.TheInside as inside

abbrev pub the_former : Former {0} → Former {0}
the_former item = list item

abbrev pub the_weighed : {item : Former {0}} → Weighed item → Weighed (the_former item)
the_weighed weighed = w_list weighed

pub the_empty : List ⊥
the_empty = []

abbrev pub the_items : (X : Type 0) → List X → List X
the_items X items = items

pub the_items_listed : (X : Type 0) (items : List X) → listed _ (children (the_former this) X items) ≡ the_items X items
the_items_listed X items = list-listed X items

-- the one field, as the vector that it is
abbrev field : Former {0}
field = via (vector.the_former this Global) Inside (λ X fields. fields.items) (λ X items. record { items = items }) (λ X fields. refl) (λ X items. refl)

module _ (From To : RattleType) (along : From.Denot → To.Denot) where
  pub the_places : Alike From To along → Alike (contract.the_row From) (contract.the_row To) ((the_former this).map From.Denot To.Denot along)
  the_places alike = view_places field (list this) view (λ X Y k fields. refl) (λ X fields. refl) From.Denot To.Denot along
      (contract.the_row From).coded (contract.the_row To).coded
      (invariant From.Denot) (invariant To.Denot) (λ fields p q. refl) (λ fields p q. refl) (λ fields e. tt) (λ fields e. tt)
      (over (inside.the_row From)) (over (inside.the_row To))
      (struct_places (inside.the_type From) (inside.the_type To) (vector.mapped along, tt) _ (λ fields. refl) refl
      (laid _ _ _ (vector.the_places global.the_row ghosts From To along alike), tt))

  pub the_codes_placed : Recodes From To along → Recodes (contract.the_row From) (contract.the_row To) ((the_former this).map From.Denot To.Denot along)
  the_codes_placed recodes items = sym (code_map From.coded.code To.coded.code along (λ x. sym (recodes x)) items)
