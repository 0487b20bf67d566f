use Rattle.sheet.proofs.Showing.{lists}
use Rattle.sheet.proofs.sheet.reading.SheetReading.kept.Goals as goal

pub returns : goal.returns
returns c = let h = lists c.args.self.now.nodes.now c.args.self.now.listed in record { shape = h.kept; within = h.within }
