use Rattle.decoder_core.proofs.pair_bulk.take_pairs_alone.Goals as goal

pub take_with-requires : goal.take_with-requires
take_with-requires g c = λ b never. absurd never
