-- What is read is spelled, and what its tokens make unavoidable is what is counted in it.
use Rattle.std.proofs.Common.{List}
use Rattle.lua_tree.specs.Words.{Tok}
use Rattle.lua_tree.specs.Reading as r
use Rattle.lua_tree.specs.Reading.{Sort, Value, Rule, Needs, a_block, program}
use Rattle.lua_tree.proofs.Comes.{Comes}
use Rattle.lua_tree.proofs.Posts.{Post, AllSound}
use Rattle.lua_tree.proofs.Holds.{holds}
use Rattle.lua_tree.proofs.SoundExprs as e
use Rattle.lua_tree.proofs.SoundStats as s

pub all_sound : AllSound
all_sound q (r.expr p c) ts = e.s_expr p c ts
all_sound q (r.more p c a) ts = e.s_more p c a ts
all_sound q (r.first c) ts = e.s_first c ts
all_sound q (r.prefix k c) ts = e.s_prefix k c ts
all_sound q (r.suffixes k c a) ts = e.s_suffixes k c a ts
all_sound q (r.args n c) ts = e.s_args n c ts
all_sound q (r.paren_args line c) ts = e.s_paren_args line c ts
all_sound q (r.exprs c) ts = e.s_exprs c ts
all_sound q (r.more_exprs c) ts = e.s_more_exprs c ts
all_sound q (r.fields c) ts = e.s_fields c ts
all_sound q (r.more_fields c) ts = e.s_more_fields c ts
all_sound q (r.name_field line b c) ts = e.s_name_field line b c ts
all_sound q (r.func_body line hidden c) ts = s.s_func_body line hidden c ts
all_sound q (r.params n) ts = s.s_params n ts
all_sound q (r.next_param n) ts = s.s_next_param n ts
all_sound q (r.more_params n) ts = s.s_more_params n ts
all_sound q (r.more_names n) ts = s.s_more_names n ts
all_sound q r.chunk ts = s.s_chunk ts
all_sound q (r.block c) ts = s.s_block c ts
all_sound q r.semi ts = s.s_semi ts
all_sound q (r.loop_block k c) ts = s.s_loop_block k c ts
all_sound q (r.stat c) ts = s.s_stat c ts
all_sound q (r.prefix_stat line c a) ts = s.s_prefix_stat line c a ts
all_sound q (r.for_rest line b c) ts = s.s_for_rest line b c ts
all_sound q (r.num_for_rest line b a i c) ts = s.s_num_for_rest line b a i c ts
all_sound q (r.local_rest line c) ts = s.s_local_rest line c ts
all_sound q (r.last c) ts = s.s_last c ts
all_sound q (r.return_rest line c) ts = s.s_return_rest line c ts
all_sound q (r.more_targets c) ts = s.s_more_targets c ts
all_sound q (r.init c) ts = s.s_init c ts
all_sound q (r.arms c) ts = s.s_arms c ts
all_sound q (r.more_arms c) ts = s.s_more_arms c ts
all_sound q (r.func_name c a) ts = s.s_func_name c a ts

-- of each rule
pub sound : (q : Sort) (r : Rule q) (ts us : List Tok) (a : Value q) (l : Needs) → Comes q (program r) ts a us l
    → Post q r ts a us l
sound q r ts us a l d = holds all_sound q (program r) ts us a l (Post q r ts) d (all_sound q r ts)
