use Rattle.std.proofs.Common.{◌≡◌, ◌+◌, ◌<◌, ◌⊎◌, inl, inr, ℕ, true, false, refl, ap, sym, subst, ◌∙◌, arith}
use Rattle.oss_deps.proofs.Basics.{compared}
use Rattle.oss_word_deps.specs.Asked.{IsLet}
use Rattle.oss_word_deps.specs.Booked.{IsBooked}
use Rattle.oss_word_deps.specs.Ledger.{entry_of}
use Rattle.oss_word_deps.specs.Shelved.{Shelved}
use Rattle.oss_word_deps.proofs.LedgerLemmas.{entry_there}
use Rattle.oss_word_deps.proofs.QueryLemmas.{met_back, met_forth}
use Rattle.oss_word_deps.proofs.words.Words.are_let.Goals as goal

pub returns-then-not-is_let-clause-met : goal.returns-then-not-is_let-clause-met
returns-then-not-is_let-clause-met c = λ s booked. (
  λ h. absurd (let q : false ≡ true = h in cc),
  λ met.
      let i = c.loop-entry.invariant in
      let r = c.requires in
      let l = c.args.self.now.ledger in
      let e = entry_there l.entries c.loop-entry.entry (omega (arith, r.from, i.from)) (let t = c.loop-entry-test.true in omega (arith, t, r.within)) in
      let lets = met_back s l c.args.job.task booked c.loop-entry.entry e.0 e.1 (r.of_task c.loop-entry.entry e.0 i.from c.loop-entry-test.true e.1).0 met in
      let told = (c.is_let.ensures.lets s e.0 (subst (λ (x : Shelved). IsBooked s x.ledger) (sym i.same) booked) (ap (λ (x : Shelved). entry_of x.ledger.entries c.loop-entry.entry) i.same ∙ e.1)).1 lets in
      absurd (let a : c.is_let.result ≡ true = told in let b : c.is_let.result ≡ false = c.if-not-is_let.true in cc),
)

pub loop-entry-preserved : goal.loop-entry-preserved
loop-entry-preserved c =
    let i = c.loop-entry.invariant in
    record {
      lets = λ s booked v e from less is.
          let told = λ (z : v ≡ c.loop-entry.entry). (c.is_let.ensures.lets s e (subst (λ (x : Shelved). IsBooked s x.ledger) (sym i.same) booked) (ap (λ (x : Shelved). entry_of x.ledger.entries c.loop-entry.entry) i.same ∙ (ap (entry_of c.args.self.now.ledger.entries) (sym z) ∙ is))).0 c.if-not-is_let.false in
          next v c.loop-entry.entry (IsLet s.opens s.given e) (compared v c.loop-entry.entry) less (λ k. i.lets s booked v e from k is) told;
      same = c.is_let.ensures.same ∙ i.same;
      from = omega (arith, i.from);
    }
  where
    next : (v n : ℕ) (P : Type 0) → (v < n) ⊎ ((v ≡ n) ⊎ (n < v)) → v < n + 1 → (v < n → P) → (v ≡ n → P) → P
    next v n P (inl h) k f g = f h
    next v n P (inr (inl h)) k f g = g h
    next v n P (inr (inr h)) k f g = absurd (omega (arith, h, k))

pub returns-clause-met : goal.returns-clause-met
returns-clause-met c = λ s booked.
    let i = c.loop-entry.invariant in
    (λ h. met_forth s c.args.self.now.ledger c.args.job booked c.requires (λ v e from less is. i.lets s booked v e from (let t = c.loop-entry-test.false in omega (arith, t, less)) is), λ h. refl)
