-- Where each rule's program is such, what it reads is such.
use Rattle.std.proofs.Common.{List, refl}
use Rattle.lua_tree.specs.Words.{Tok, word_of, spot_of}
use Rattle.lua_tree.specs.Reading.{Sort, Value, Needs, Prog, program}
use Rattle.lua_tree.proofs.Comes as c
use Rattle.lua_tree.proofs.Comes.{Comes, both}
use Rattle.lua_tree.proofs.Posts.{Post, wp, AllSound}

pub holds : AllSound
    → (s : Sort) (p : Prog s) (ts us : List Tok) (a : Value s) (l : Needs) (P : Value s → List Tok → Needs → Type 0)
    → Comes s p ts a us l → wp s p ts P → P a us l
holds h s p ts us a l P c.gives x = x
holds h s p ts us a l P (c.takes {n = n} {l = l2} {p = p2} {ts = ts2} d) x = holds h s p2 ts2 us a l2 (λ a us l. P a us (both n l)) d x
holds h s p ts us a l P (c.looks {f = f} d) x = holds h s (f (word_of ts) (spot_of ts)) ts us a l P d x
holds h s p ts us a l P (c.expects {n = n} {l = l2} {f = f} {at = at} {ts = ts2} d) x = holds h s (f at) ts2 us a l2 (λ a us l. P a us (both n l)) d (x at ts2 refl)
holds h s p ts us a l P (c.expects_name {n = n} {l = l2} {f = f} {x = b} {at = at} {ts = ts2} d) x = holds h s (f b at) ts2 us a l2 (λ a us l. P a us (both n l)) d (x b at ts2 refl)
holds h s p ts us a l P c.is_last x = x refl
holds h s p ts us a l P (c.thens {q = q} {r = r} {f = f} {a = b} {us = vs} {l = l2} {m = m} d e) x =
    holds h s (f b) vs us a m (λ a us l. P a us (both l2 l)) e (x b vs l2 (holds h q (program r) ts vs b l2 (Post q r ts) d (h q r ts)))
