-- What holds of a failure.
use Rattle.std.proofs.Common.{◌≡◌, true, Result, Ok, Err, OnErr, is_err}

pub err_says : {T E : Type 0} (r : Result T E) (P : Type 0) → is_err r ≡ true → OnErr r P → P
err_says (Ok x) P e said = absurd cc
err_says (Err x) P e said = said
