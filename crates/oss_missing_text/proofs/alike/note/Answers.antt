use Rattle.std.proofs.Common.{◌≡◌, ◌∙◌, refl, ap, Some, rules}
use Rattle.std.specs.Str.{bytes_eq}
use Rattle.std.proofs.lemmas.Map.Text.{hash_map_updates_str}
use Rattle.oss_missing_text.specs.Tables.{kept_at, noted_at}
use Rattle.oss_missing_text.proofs.AlikeLemmas.{put}
use Rattle.oss_missing_text.proofs.alike.note.Goals as goal

pub returns : goal.returns
returns c = λ other.
    let line = c.args.line.now in
    let old = c.args.alike.now in
    let found : c.copied-old.result ≡ kept_at old line = search rules in
    hash_map_updates_str line old c.insert.new.self (Some c.noted.result) c.in_ok-insert.ensures.updates other
    ∙ put c.args.place (kept_at old) line other c.noted.result (bytes_eq line other) refl (c.noted.ensures ∙ ap (noted_at c.args.place) found)
