use Rattle.std.proofs.Common.{arith, length-take}
use Rattle.nodetable.proofs.Elements.{closes}
use Rattle.nodetable.proofs.open_elements.OpenElements.kept.Goals as goal

pub returns : goal.returns
returns c =
    let me = c.args.self.now in
    record {
      within = omega (arith, c.still_open.ensures.within, length-take me.count me.slots.now);
      kept = closes me.count c.still_open.result c.args.parent me.slots.now c.still_open.ensures.within c.still_open.ensures.kept;
    }
