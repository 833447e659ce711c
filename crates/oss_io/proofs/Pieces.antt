-- What two writes append, one after the other.
use Rattle.std.proofs.Common.{◌≡◌, ℕ, ◌+◌, List, take, drop, refl, ap, sym, ◌∙◌, append_assoc, ◌++◌}
use Rattle.std.specs.Prelude.{Option, None, Some}
use Rattle.std.specs.Io.KnownBytes.{append_known}
use Rattle.std.proofs.Math.Seq.{take-add}

-- a front, and then a front of what is behind it, are one front
pub append_known-front : (known : Option (List ℕ)) (bytes : List ℕ) (done count : ℕ)
    → append_known (append_known known (take done bytes)) (take count (drop done bytes))
    ≡ append_known known (take (done + count) bytes)
append_known-front None bytes done count = refl
append_known-front (Some held) bytes done count =
    let joined : take done bytes ++ take count (drop done bytes) ≡ take (done + count) bytes = sym (take-add done count bytes) in
    ap Some (append_assoc held (take done bytes) (take count (drop done bytes)) ∙ ap (λ more. held ++ more) joined)

pub ruleset fronts = (append_known-front)
