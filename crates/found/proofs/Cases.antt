-- Document 01, "File numbers": names. Assumes nothing.
use mathlib.Core.List.{[], ◌∷◌}
use mathlib.Core.Path.{◌≡◌, refl}
use Rattle.found.specs.Names.{begins_log, decimal_from, log_name}
use Rattle.std.specs.Prelude.{Some, None}

-- names: "log0" stands; a leading zero, a sign, a blank, another letter, nothing, or a number of more than 32 bits doesn't
pub log0 : log_name (108 ∷ 111 ∷ 103 ∷ 48 ∷ []) ≡ Some 0
unfolding log_name begins_log decimal_from
log0 = refl

pub log07 : log_name (108 ∷ 111 ∷ 103 ∷ 48 ∷ 55 ∷ []) ≡ None
unfolding log_name begins_log decimal_from
log07 = refl

pub log_plus : log_name (108 ∷ 111 ∷ 103 ∷ 43 ∷ 55 ∷ []) ≡ None
unfolding log_name begins_log decimal_from
log_plus = refl

pub log-alone : log_name (108 ∷ 111 ∷ 103 ∷ []) ≡ None
unfolding log_name begins_log decimal_from
log-alone = refl

pub log_greatest : log_name (108 ∷ 111 ∷ 103 ∷ 52 ∷ 50 ∷ 57 ∷ 52 ∷ 57 ∷ 54 ∷ 55 ∷ 50 ∷ 57 ∷ 53 ∷ []) ≡ Some 4294967295
unfolding log_name begins_log decimal_from
log_greatest = refl

pub log_greater : log_name (108 ∷ 111 ∷ 103 ∷ 52 ∷ 50 ∷ 57 ∷ 52 ∷ 57 ∷ 54 ∷ 55 ∷ 50 ∷ 57 ∷ 54 ∷ []) ≡ None
unfolding log_name begins_log decimal_from
log_greater = refl
