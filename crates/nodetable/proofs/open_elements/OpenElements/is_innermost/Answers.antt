use Rattle.std.proofs.Common.{take, sym, ◌∙◌}
use Rattle.nodetable.proofs.Elements.{innermost_last}
use Rattle.nodetable.proofs.open_elements.OpenElements.is_innermost.Goals as goal

pub returns-in-Some : goal.returns-in-Some
returns-in-Some c =
    let me = c.args.self.now in
    c.is_for.ensures ∙ sym (innermost_last c.args.id (take me.count me.slots.now) c.in-Some.slot.now c.in-Some.ensures.item.3.0 c.in-Some.ensures.item.1)
