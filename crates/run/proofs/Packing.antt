-- Keys keep an order, are read back, and lie in the right stretches.
use Rattle.std.proofs.Common.{rules}
use Rattle.run.specs.Laws.{KeysKeepOrder, KeysOneToOne, KeysReadBack, StretchesHold}

pub keys_keep_order : KeysKeepOrder
keys_keep_order = search rules

pub keys_one_to_one : KeysOneToOne
keys_one_to_one = search rules

pub keys_read_back : KeysReadBack
keys_read_back = search rules

pub stretches_hold : StretchesHold
stretches_hold = search rules
