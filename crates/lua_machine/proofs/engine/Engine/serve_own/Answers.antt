use Rattle.lua_heap.specs.declared.native.Native.TheVariants as natives
use Rattle.lua_code.specs.Held.{program_view}
use Rattle.lua_machine.proofs.Answered.{served_alone}
use Rattle.lua_machine.proofs.engine.Engine.serve_own.Goals as goal

pub returns-in-Error : goal.returns-in-Error
returns-in-Error c = served_alone c.raise_error.result natives.Error c.args.native c.args.self.now c.raise_error.new.self (program_view c.args.program.now c.args.state) c.in-Error.is c.raise_error.ensures

pub returns-in-Pcall : goal.returns-in-Pcall
returns-in-Pcall c = served_alone c.try_call.result natives.Pcall c.args.native c.args.self.now c.try_call.new.self (program_view c.args.program.now c.args.state) c.in-Pcall.is c.try_call.ensures

pub returns-in-Print : goal.returns-in-Print
returns-in-Print c = served_alone c.print.result natives.Print c.args.native c.args.self.now c.print.new.self (program_view c.args.program.now c.args.state) c.in-Print.is c.print.ensures

pub returns-in-ToString : goal.returns-in-ToString
returns-in-ToString c = served_alone c.convert_text.result natives.ToString c.args.native c.args.self.now c.convert_text.new.self (program_view c.args.program.now c.args.state) c.in-ToString.is c.convert_text.ensures
