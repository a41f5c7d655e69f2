use Rattle.std.proofs.Common.{rules}
use Rattle.page_records.proofs.Letters.{lettered_is}
use Rattle.page_records.proofs.parts.is_lettered.Goals as goal

pub returns : goal.returns
returns c = lettered_is c.args.bytes.now c.all.result (search rules)
