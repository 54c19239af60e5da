use Rattle.siit_delivery.proofs.laws.pairs_deliver.Goals as goal
use Rattle.siit_delivery.proofs.Delivered.{pairs_do_deliver}

pub returns : goal.returns
returns c =
    pairs_do_deliver c.accepted_chains_are_good.ensures c.records_cross_both.ensures c.none_turns_in_pairs.ensures
    c.fragments_come_across.ensures c.packets_behind_are_read.ensures
