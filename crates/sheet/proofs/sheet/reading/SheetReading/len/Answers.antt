use Rattle.sheet.proofs.Showing.{lists, rows_counted}
use Rattle.sheet.proofs.sheet.reading.SheetReading.len.Goals as goal

pub returns : goal.returns
returns c = rows_counted c.args.self.now.nodes.now (lists c.args.self.now.nodes.now c.args.self.now.listed)
