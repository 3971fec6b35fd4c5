-- The value of an error.
use Rattle.std.proofs.Common.{◌≡◌, ℕ, zero, suc, ◌<◌, List, [], ◌∷◌, length, refl, sym, ap, ◌∙◌, subst, Some, slice_get, get_or, arith}
use Rattle.std.specs.Prelude.{unwrap_or}
use Rattle.lua_tree.specs.Tree.{Bytes}
use Rattle.lua_meaning.specs.Value as meant
use Rattle.lua_meaning.specs.Fault.{placed}
use Rattle.lua_heap.specs.declared.value.Value.TheVariants.{Str}
use Rattle.lua_heap.specs.Heap.{HeapView, store_of, Extends}
use Rattle.lua_code.specs.Instr as i
use Rattle.lua_code.specs.declared.instr.Site.{Site}
use Rattle.lua_machine.specs.View.{EngineView, protos_at, no_proto, code_of, config_of}
use Rattle.lua_machine.specs.Made.{IsEngine}
use Rattle.lua_machine.specs.Ready.{AreFit, IsReady}
use Rattle.lua_machine.specs.Does.{site_or, site_at}
use Rattle.lua_machine.specs.Errors.{Raised}
use Rattle.lua_machine.proofs.Keeping.{get_in, sound_here, inside, fit_grown}
use Rattle.lua_machine.proofs.Fetching.{code_is}
use Rattle.lua_machine.proofs.Growing.{grown}

-- the running function's file
file_is : (m : EngineView) → IsReady m → i.file_of (code_of m.chunks m.chunk m.func) ≡ m.proto.file
file_is m r =
    ap i.file_of (code_is (protos_at m.chunks m.chunk) m.func m.proto
    (get_in (protos_at m.chunks m.chunk) m.func no_proto r.placed.known ∙ ap (λ p. Some p) (sym r.proto)))

-- the next instruction has a site
pub has_site : (m : EngineView) → IsReady m → m.pc < length m.proto.sites
has_site m r =
    let long = (sound_here m r).held.sites in
    let less = inside m r in
    omega (arith, long, less)

pub site_is : (sites : List Site) (n : ℕ) (s : Site) → n < length sites → (site_or (slice_get sites n)).line ≡ (get_or sites n s).line
site_is [] n s lt = absurd (let e : ⊥ = omega (arith, lt) in e)
site_is (t ∷ sites) zero s lt = refl
site_is (t ∷ sites) (suc n) s lt = site_is sites n s (omega (arith, lt))

-- a text that was put together and has its id is an error's value
pub raised_of : (e m : EngineView) → e ≡ m → IsEngine e → IsReady m → (h : HeapView) (id line : ℕ) (text : Bytes) → slice_get h.texts id ≡ Some (placed (Some (record { file = m.proto.file; line = line })) text) → id < length h.texts → line ≡ (site_at m.proto m.pc).line → Extends e.heap h → store_of h ≡ store_of e.heap → h.functions ≡ e.heap.functions → Raised text (Str id) m (record e { heap = h })
raised_of e m seen is r h id line text there made at more store functions =
    record {
      text_is =
          ap (λ o. meant.str (unwrap_or o [])) there
          ∙ ap (λ (file : Bytes). meant.str (placed (Some (record { file = file; line = line })) text)) (sym (file_is m r))
          ∙ ap (λ n. meant.str (placed (Some (record { file = i.file_of (code_of m.chunks m.chunk m.func); line = n })) text)) at;
      made = made;
      same = λ past. grown e h is more store functions past ∙ ap (λ (v : EngineView). config_of past v) seen;
      fit = fit_grown e h is more functions (subst AreFit (sym seen) r.fit);
    }
