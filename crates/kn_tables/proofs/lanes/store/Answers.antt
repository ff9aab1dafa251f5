use Rattle.std.proofs.Common.{arith}
use Rattle.std.proofs.lemmas.Simd.{get_or-put_chunk_at, get_or-put_chunk_below, get_or-put_chunk_above}
use Rattle.kn_tables.proofs.lanes.store.Goals as goal

pub returns : goal.returns
returns c =
    let words = c.args.words.now in
    let lanes = c.args.lanes in
    record {
      each = λ i l. get_or-put_chunk_at c.args.at words lanes i 0 (omega (arith, l, c.fits-lanes.0)) (omega (arith, c.requires, c.fits-lanes.0));
      below = λ k h. get_or-put_chunk_below c.args.at words lanes k 0 h;
      above = λ k h. get_or-put_chunk_above c.args.at words lanes k 0 (omega (arith, h, c.fits-lanes.0));
    }
