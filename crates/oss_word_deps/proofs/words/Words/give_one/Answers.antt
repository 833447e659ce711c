use Rattle.std.proofs.Common.{ℕ, ap, sym, subst}
use Rattle.oss_word_deps.specs.Known.{Follows}
use Rattle.oss_word_deps.specs.Ledger.{Ledger, ledger_of}
use Rattle.oss_word_deps.specs.Shelved.{MayFree, Shelved, freed}
use Rattle.oss_word_deps.specs.Sound.{IsSound}
use Rattle.oss_word_deps.proofs.GiveLemmas.{free_within, freed_follows, freed_sound, release}
use Rattle.oss_word_deps.proofs.words.Words.give_one.Goals as goal

pub mark_given-requires : goal.mark_given-requires
mark_given-requires c =
    let same = ap (λ (s : Shelved). s.ledger) c.self.view_is in
    let may = subst (λ (l : Ledger). MayFree l c.args.entry) (sym same) c.requires in
    let w = free_within (ledger_of c.self.inside.book) c.self.invariant.1 c.args.entry may in
    (w.0, w.2)

pub give-requires : goal.give-requires
give-requires c =
    let same = ap (λ (s : Shelved). s.ledger) c.self.view_is in
    let may = subst (λ (l : Ledger). MayFree l c.args.entry) (sym same) c.requires in
    release (ledger_of c.self.inside.book) c.self.invariant.1 c.self.inside.net.known c.self.inside.net.size c.args.entry c.self.invariant.0 may

pub invariant_of-self : goal.invariant_of-self
invariant_of-self c =
    let same = ap (λ (s : Shelved). s.ledger) c.self.view_is in
    let may = subst (λ (l : Ledger). MayFree l c.args.entry) (sym same) c.requires in
    let l = ledger_of c.self.inside.book in
    let f = freed_follows l c.self.invariant.1 c.self.inside.net.known c.give.new.self.known c.self.inside.net.size c.args.entry c.self.invariant.0 may c.give.ensures.frees in
    subst (λ (n : Ledger). Follows c.give.new.self.known c.give.new.self.size n × IsSound n) (sym c.mark_given.ensures.freed)
    (subst (λ (n : ℕ). Follows c.give.new.self.known n (freed l c.args.entry)) (sym c.give.ensures.size) f, freed_sound l c.args.entry c.self.invariant.1)

pub returns-clause-sound : goal.returns-clause-sound
returns-clause-sound c = subst IsSound (sym c.mark_given.ensures.freed) (freed_sound (ledger_of c.self.inside.book) c.args.entry c.self.invariant.1)
