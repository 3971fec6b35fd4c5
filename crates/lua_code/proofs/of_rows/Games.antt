-- Rows of the machine: modules, files, threads and events (LÖVE wiki, `love`). Written by checks/machine-rows/write.py.
use Rattle.std.proofs.Common.{refl}
use Rattle.std.specs.Fmt.{digits}
use Rattle.lua_value.specs.Arithmetic.{power}
use Rattle.lua_code.specs.rows.Games.{Rows, Modules, ModuleCircle, FaultyModule, Reads, Threads, TooMany, ThreadState, Events, ClearTicks, Quits, Budget, AloneBudget}

modules : Modules
unfolding digits power
modules = refl

module_circle : ModuleCircle
unfolding digits power
module_circle = refl

faulty_module : FaultyModule
unfolding digits power
faulty_module = refl

reads : Reads
unfolding digits power
reads = refl

threads : Threads
unfolding digits power
threads = refl

too_many : TooMany
unfolding digits power
too_many = refl

thread_state : ThreadState
unfolding digits power
thread_state = refl

events : Events
unfolding digits power
events = refl

clear_ticks : ClearTicks
unfolding digits power
clear_ticks = refl

quits : Quits
unfolding digits power
quits = refl

budget : Budget
unfolding digits power
budget = refl

alone_budget : AloneBudget
unfolding digits power
alone_budget = refl

pub rows_of_games : Rows
rows_of_games = record {
  modules =
      modules;
  module_circle = module_circle;
  faulty_module = faulty_module;
  reads = reads;
  threads =
      threads;
  too_many = too_many;
  thread_state = thread_state;
  events = events;
  clear_ticks =
      clear_ticks;
  quits = quits;
  budget = budget;
  alone_budget = alone_budget;
}
