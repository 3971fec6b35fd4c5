-- The machine between its asks: it doesn't know the replies to come.
use Rattle.std.specs.Prelude.{ℕ, zero, suc, ◌≡◌, List, [], ◌∷◌, ◌++◌}
use Rattle.lua_tree.specs.Tree.{Block}
use Rattle.lua_meaning.specs.Message.{Ask, Reply}
use Rattle.lua_meaning.specs.Run.{Start, meant}
use Rattle.lua_code.specs.State.{Config, Pending, End, needed, Step, on, stop, asks}
use Rattle.lua_code.specs.Natives.{Program, resume}
use Rattle.lua_code.specs.Act.{act, after, exec}
use Rattle.lua_code.specs.Follows.{program_of, first_config, end_of}

-- where a machine stands still: its run is over, or it waits for a reply; or it wasn't given steps enough
pub data Pause : Type 0 where
  over : End → Pause
  paused : Ask → Pending → Pause
  unfinished : Pause

-- at most so many steps, up to the next ask
abbrev pub next : Program → ℕ → Step → Pause
next program n (stop end) = over end
next program n (asks question p) = paused question p
next program zero (on c) = unfinished
next program (suc n) (on c) = next program n (act program c)

-- the same start with other replies
abbrev pub fed : Start → List Reply → Start
fed start replies = record start { replies = replies }

-- What a machine keeps of its past: whatever replies are still to come, the run from the start with those that came and
-- these comes to what it comes to from here with these.
abbrev pub Reached : Start → Block → List Reply → Step → Type 0
Reached start b replies x =
    (more : List Reply) (i : ℕ) →
    (j : ℕ) × (exec (program_of start.game) j (first_config start b) (replies ++ more)
    ≡ after (program_of start.game) (exec (program_of start.game) i) x more)

-- asks, replies and the end are those of the meaning
pub record Talks (start : Start) (b : Block) : Type 0 where
  pub begins : Reached start b [] (on (first_config start b))
  pub goes_on :
      (replies : List Reply) (c : Config) → Reached start b replies (on c) →
      Reached start b replies (act (program_of start.game) c)
  pub is_told :
      (replies : List Reply) (question : Ask) (p : Pending) (reply : Reply) →
      Reached start b replies (asks question p) →
      Reached start b (replies ++ reply ∷ []) (resume (program_of start.game) question reply p)
  pub asks_so :
      (replies : List Reply) (x : Step) (n : ℕ) (question : Ask) (p : Pending) →
      Reached start b replies x → next (program_of start.game) n x ≡ paused question p →
      end_of (meant (fed start replies) b) ≡ needed question p.state
  pub ends_so :
      (replies : List Reply) (x : Step) (n : ℕ) (end : End) → Reached start b replies x →
      next (program_of start.game) n x ≡ over end → (more : List Reply) →
      end_of (meant (fed start (replies ++ more)) b) ≡ end

abbrev pub AllTalk : Type 0
AllTalk = (start : Start) (b : Block) → Talks start b
