use Rattle.std.proofs.Common.{take, map, ◌∙◌, ap, sym}
use Rattle.std.proofs.lemmas.List.{take-map}
use Rattle.lua_upvalues.proofs.locals.Locals.cut.Goals as goal

pub returns : goal.returns
returns c =
    ap (λ xs. map (λ name. name.now) xs) c.truncate.ensures.items
    ∙ sym (take-map (λ name. name.now) c.args.len c.self.inside.names.items)
    ∙ ap (λ xs. take c.args.len xs) c.self.view_is
