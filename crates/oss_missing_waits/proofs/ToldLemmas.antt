-- What each event makes of a task that is kept.
use Rattle.std.proofs.Common.{◌≡◌, ◌≤◌, ◌<◌, ◌⊎◌, inl, inr, refl, sym, subst, ap, ◌∙◌, ℕ, Bool, true, false, List, [], ◌∷◌, ◌++◌, Option, Some, None, arith}
use Rattle.std.specs.Prelude.{◌||◌, ◌&&◌, ◌==◌, cond, if◌then◌else◌, is_some}
use Rattle.std.specs.BTreeSet.{BTreeSet}
use Rattle.std.specs.List.{list_any}
use Rattle.std.specs.Ordering.{MatchOrdering, is_eq, nat_cmp}
use Rattle.std.specs.declared.cmp.Ordering.{Ordering}
use Rattle.std.specs.declared.cmp.Ordering.TheVariants.{Equal, Greater, Less}
use Rattle.std.proofs.lemmas.Cmp.{ranked}
use Rattle.std.proofs.Math.Path.{fun_ext}
use Rattle.std.proofs.lemmas.Bool.Decides.{nat_tests}
use Rattle.oss_syntax.specs.declared.access.Access.{Access}
use Rattle.oss_syntax.specs.declared.access.Range.{Range}
use Rattle.oss_syntax.specs.declared.tree.program.Item.{Item}
use Rattle.oss_model.specs.Context.{in_clauses}
use Rattle.oss_model.specs.Rights.{Touch}
use Rattle.oss_ranges.specs.declared.piece.Piece.{Piece}
use Rattle.oss_ranges.specs.Cells.{value_at}
use Rattle.oss_explanation.specs.declared.explained.Touching.{Touching}
use Rattle.oss_explanation.specs.declared.explained.Touching.TheVariants.{Folding, Reading, Writing}
use Rattle.oss_needs.specs.declared.clause.Clause.{Clause}
use Rattle.oss_pieces.specs.CellSets.{SetOfCells, has}
use Rattle.oss_pieces.specs.Layouts.{grids_from}
use Rattle.oss_pieces.specs.Pieces.{ArePieces}
use Rattle.oss_pieces.specs.Rows.{Grid}
use Rattle.oss_pieces.specs.declared.piece.Piece.{Piece as Part}
use Rattle.oss_lent_cells.specs.Kept.{AreLends, AreLent, AreWaitedFor}
use Rattle.oss_lent_cells.specs.Lent.{all_counted, counted_if, nothing_lent}
use Rattle.oss_lent_cells.specs.declared.holder.Child.{Child}
use Rattle.oss_lent_cells.specs.declared.holder.Holder.{Holder}
use Rattle.oss_lent_cells.specs.declared.holder.Lent.{Lent}
use Rattle.oss_missing_lines.specs.declared.missing.Late.{Late}
use Rattle.oss_missing_lines.specs.declared.missing.Late.TheVariants as late
use Rattle.oss_missing_lines.specs.declared.missing.MissingWait.{MissingWait}
use Rattle.oss_explanation.specs.declared.explained.Word.{Word}
use Rattle.oss_missing_lines.specs.Words.{word_by}
use Rattle.oss_missing_waits.specs.declared.holding.HoldingTask.{HoldingTask}
use Rattle.oss_missing_waits.specs.Holding.{Holding, IsUse, Told, Uses, Waits, has_use, has_wait, hinderer, known, lent_when, new_task, none, releases, told, told_wait, waits_before, with_lent, with_told}
use Rattle.oss_missing_waits.specs.Kept.{IsHolding, IsToldUse, IsUseThen, Leads, LeadsTo, has_line, touch_of, touched_under, waits_for}
use Rattle.oss_missing_waits.specs.Lines.{AreLines, IsLine, touching_by}
use Rattle.oss_missing_waits.proofs.UsingLemmas.{AreAdded, clauses_bounded}

-- Lines

pub lines_more : (all : List Item) (ts : List Told) (ls : List Late) (t : Told) (l : Late) → AreLines all ts ls → IsLine all t l → AreLines all (ts ++ t ∷ []) (ls ++ l ∷ [])
lines_more all [] [] t l h m = (m, tt)
lines_more all [] (x ∷ ls) t l h m = absurd h
lines_more all (u ∷ ts) [] t l h m = absurd h
lines_more all (u ∷ ts) (x ∷ ls) t l h m = (h.0, lines_more all ts ls t l h.1 m)

-- the order in which two tests stand is all one
swapped : (a b c : Bool) → (a || (b || c)) ≡ (b || (a || c))
swapped true true c = refl
swapped true false c = refl
swapped false b c = refl

-- with one more line of a kind that line is told too, and of the other kind none is
more_uses : (ts : List Told) (cells : ℕ → Bool) (line other : ℕ) → has_use (ts ++ Uses cells line ∷ []) other ≡ (line == other || has_use ts other)
more_uses [] cells line other = refl
more_uses (Waits touch c n child ∷ ts) cells line other = more_uses ts cells line other
more_uses (Uses some n ∷ ts) cells line other = ap (λ (b : Bool). n == other || b) (more_uses ts cells line other) ∙ swapped (n == other) (line == other) (has_use ts other)

same_waits : (ts : List Told) (cells : ℕ → Bool) (line other : ℕ) → has_wait (ts ++ Uses cells line ∷ []) other ≡ has_wait ts other
same_waits [] cells line other = refl
same_waits (Waits touch c n child ∷ ts) cells line other = ap (λ (b : Bool). n == other || b) (same_waits ts cells line other)
same_waits (Uses some n ∷ ts) cells line other = same_waits ts cells line other

more_waits : (ts : List Told) (touch : Touch) (c line : ℕ) (child : Holder) (other : ℕ) → has_wait (ts ++ Waits touch c line child ∷ []) other ≡ (line == other || has_wait ts other)
more_waits [] touch c line child other = refl
more_waits (Waits t d n k ∷ ts) touch c line child other = ap (λ (b : Bool). n == other || b) (more_waits ts touch c line child other) ∙ swapped (n == other) (line == other) (has_wait ts other)
more_waits (Uses some n ∷ ts) touch c line child other = more_waits ts touch c line child other

same_uses : (ts : List Told) (touch : Touch) (c line : ℕ) (child : Holder) (other : ℕ) → has_use (ts ++ Waits touch c line child ∷ []) other ≡ has_use ts other
same_uses [] touch c line child other = refl
same_uses (Waits t d n k ∷ ts) touch c line child other = same_uses ts touch c line child other
same_uses (Uses some n ∷ ts) touch c line child other = ap (λ (b : Bool). n == other || b) (same_uses ts touch c line child other)

-- A set of lines has one more.
abbrev pub HasMore : ℕ → BTreeSet ℕ → BTreeSet ℕ → Type 0
HasMore line old new = (other : ℕ) → has_line new other ≡ cond (is_eq (nat_cmp line other)) true (has_line old other)

alike_lines : (line other : ℕ) → is_eq (nat_cmp line other) ≡ line == other
alike_lines line other = go (nat_cmp line other) (ranked line other (nat_cmp line other) refl)
  where
    go : (o : Ordering) → MatchOrdering o (line < other) (line ≡ other) (other < line) → is_eq o ≡ line == other
    go Less l = grind (arith, nat_tests, l)
    go Equal e = grind (arith, nat_tests, e)
    go Greater l = grind (arith, nat_tests, l)

line_more : (line other : ℕ) (old new : BTreeSet ℕ) → HasMore line old new → has_line new other ≡ (line == other || has_line old other)
line_more line other old new more = more other ∙ (ap (λ (b : Bool). cond b true (has_line old other)) (alike_lines line other) ∙ either (line == other))
  where
    either : (b : Bool) → cond b true (has_line old other) ≡ (b || has_line old other)
    either true = refl
    either false = refl

touching_is : (t : Touching) → t ≡ touching_by (touch_of t)
touching_is Reading = refl
touching_is Writing = refl
touching_is (Folding op) = refl

-- Uses behind a release

both : (a b : Bool) → (a && b) ≡ true → (a ≡ true) × (b ≡ true)
both true true e = (refl, refl)
both true false e = let x : false ≡ true = e in absurd cc
both false b e = let x : false ≡ true = e in absurd cc

-- No cell that a program has is used.
pub use_none : (layout : List Grid) (used : SetOfCells) (line : ℕ) (t : HoldingTask) → ((c : ℕ) → c < 1048576 → has used c ≡ false) → IsToldUse layout used line t t
use_none layout used line t free cells are all h laid s = (h, (none (λ c x y. never c x y (lies c)), s))
  where
    lies : (c : ℕ) → (c < 1048576) ⊎ (1048576 ≤ c)
    lies c = grind (arith, nat_tests)

    never : (c : ℕ) → cells c ≡ true → h.released c ≡ true → (c < 1048576) ⊎ (1048576 ≤ c) → ⊥
    never c x y (inl l) =
        let held : has t.released c ≡ true = s.released c ∙ y in
        let e : true ≡ false = sym (ap (λ (b : Bool). b && has t.released c) x ∙ held) ∙ sym (are c) ∙ free c l in
        absurd cc
    never c x y (inr l) = let e : true ≡ false = sym y ∙ s.past c l in absurd cc

-- One was told on this line.
pub use_known : (layout : List Grid) (used : SetOfCells) (line : ℕ) (t : HoldingTask) → has_line t.uses line ≡ true → IsToldUse layout used line t t
use_known layout used line t has_one cells are all h laid s = (h, (known (sym (s.uses line) ∙ has_one), s))

-- It is told.
pub use_told : (layout : List Grid) (used : SetOfCells) (line cell : ℕ) (found : List Part) (old new : HoldingTask) → has used cell ≡ true → has_line old.uses line ≡ false
    → ((all : List Item) → layout ≡ grids_from all 0 → ArePieces (has used) all 0 0 found)
    → new.lent ≡ old.lent → new.released ≡ old.released → new.told ≡ old.told ++ late.Use (record { cells = found; line = line }) ∷ [] → new.waits ≡ old.waits → HasMore line old.uses new.uses → IsToldUse layout used line old new
use_told layout used line cell found old new held has_none pieces lent released lines waits uses cells are all h laid s =
    let same : (c : ℕ) → has used c ≡ (cells c && h.released c) = λ c. are c ∙ ap (λ (b : Bool). cells c && b) (s.released c) in
    let yes = both (cells cell) (h.released cell) (sym (same cell) ∙ held) in (
      with_told (Uses (λ d. cells d && h.released d) line) h,
      (
        told cell yes.0 yes.1 (sym (s.uses line) ∙ has_none),
        record {
          lent = subst (λ (ps : List (Piece Lent)). AreLent h.lent ps) (sym lent) s.lent;
          released = λ c. ap (λ (r : SetOfCells). has r c) released ∙ s.released c;
          past = s.past;
          told =
              subst (λ (ls : List Late). AreLines all (h.told ++ Uses (λ d. cells d && h.released d) line ∷ []) ls) (sym lines)
              (lines_more all h.told old.told (Uses (λ d. cells d && h.released d) line) (late.Use (record { cells = found; line = line })) s.told
              (record { pieces = subst (λ (test : ℕ → Bool). ArePieces test all 0 0 found) (fun_ext same) (pieces all laid); line_is = refl }));
          waits = λ other. ap (λ (ls : BTreeSet ℕ). has_line ls other) waits ∙ s.waits other ∙ sym (same_waits h.told (λ d. cells d && h.released d) line other);
          uses = λ other. line_more line other old.uses new.uses uses ∙ ap (λ (b : Bool). line == other || b) (s.uses other) ∙ sym (more_uses h.told (λ d. cells d && h.released d) line other);
        },
      ),
    )

-- A missing wait

pub wait_known : (touch : Touch) (c line : ℕ) (child : Holder) (t : HoldingTask) → has_line t.waits line ≡ true → LeadsTo (told_wait touch c line child) t t
wait_known touch c line child t has_one all h s =
    let e : has_wait h.told line ≡ true = sym (s.waits line) ∙ has_one in
    subst (λ (b : Bool). IsHolding all (if b then h else with_told (Waits touch c line child) h) t) (sym e) s

pub wait_told : (touch : Touching) (c line : ℕ) (child : Holder) (old new : HoldingTask) (word : Word) → has_line old.waits line ≡ false → word ≡ word_by child.clause
    → new.lent ≡ old.lent → new.released ≡ old.released
    → new.told ≡ old.told ++ late.Wait (record { touch = touch; cell = c; line = line; child = child.number; created = child.line; word = word }) ∷ [] → HasMore line old.waits new.waits → new.uses ≡ old.uses → LeadsTo (told_wait (touch_of touch) c line child) old new
wait_told touch c line child old new word has_none word_is lent released lines waits uses all h s =
    let e : has_wait h.told line ≡ false = sym (s.waits line) ∙ has_none in
    let w : MissingWait = record { touch = touch; cell = c; line = line; child = child.number; created = child.line; word = word } in
    let t : Told = Waits (touch_of touch) c line child in
    subst (λ (b : Bool). IsHolding all (if b then h else with_told t h) new) (sym e)
    (record {
      lent = subst (λ (ps : List (Piece Lent)). AreLent h.lent ps) (sym lent) s.lent;
      released = λ d. ap (λ (r : SetOfCells). has r d) released ∙ s.released d;
      past = s.past;
      told =
          subst (λ (ls : List Late). AreLines all (h.told ++ t ∷ []) ls) (sym lines)
          (lines_more all h.told old.told t (late.Wait w) s.told
          (record {
            touch = touching_is touch;
            cell = refl;
            line_is = refl;
            number = refl;
            created = refl;
            word = word_is;
          }));
      waits = λ other. line_more line other old.waits new.waits waits ∙ ap (λ (b : Bool). line == other || b) (s.waits other) ∙ sym (more_waits h.told (touch_of touch) c line child other);
      uses = λ other. ap (λ (ls : BTreeSet ℕ). has_line ls other) uses ∙ s.uses other ∙ sym (same_uses h.told (touch_of touch) c line child other);
    })

-- What is lent

-- The same with other cells lent.
lent_now : (all : List Item) (h : Holding) (old new : HoldingTask) (lent : ℕ → Option Lent) → IsHolding all h old → AreLent lent new.lent → new.released ≡ old.released → new.told ≡ old.told → new.waits ≡ old.waits → new.uses ≡ old.uses → IsHolding all (with_lent lent h) new
lent_now all h old new lent s now released lines waits uses = record {
  lent = now;
  released = λ c. ap (λ (r : SetOfCells). has r c) released ∙ s.released c;
  past = s.past;
  told = subst (λ (ls : List Late). AreLines all h.told ls) (sym lines) s.told;
  waits = λ other. ap (λ (ls : BTreeSet ℕ). has_line ls other) waits ∙ s.waits other;
  uses = λ other. ap (λ (ls : BTreeSet ℕ). has_line ls other) uses ∙ s.uses other;
}

pub waits_more : (old new : HoldingTask) → AreLent nothing_lent new.lent → new.released ≡ old.released → new.told ≡ old.told → new.waits ≡ old.waits → new.uses ≡ old.uses → LeadsTo (with_lent nothing_lent) old new
waits_more old new now released lines waits uses all h s = lent_now all h old new nothing_lent s now released lines waits uses

pub lends_more : (k : Child) (ks : List (Piece Clause)) (old new : HoldingTask) → AreLends k ks old.lent new.lent → new.released ≡ old.released → new.told ≡ old.told → new.waits ≡ old.waits → new.uses ≡ old.uses
    → LeadsTo (lent_when true k.number k.line (all_counted k.is_final (value_at ks))) old new
lends_more k ks old new now released lines waits uses all h s = lent_now all h old new _ s (now h.lent s.lent) released lines waits uses

pub waits_on_more : (named : List Range) (old new : HoldingTask) → AreWaitedFor named old.lent new.lent → new.released ≡ old.released → new.told ≡ old.told → new.waits ≡ old.waits → new.uses ≡ old.uses → LeadsTo (waits_for named) old new
waits_on_more named old new now released lines waits uses all h s = lent_now all h old new _ s (now h.lent s.lent) released lines waits uses

-- It lends, or does not.
pub lends_when : (k : Child) (ks : List (Piece Clause)) (lends : Bool) (old new : HoldingTask) → lends ≡ true → LeadsTo (lent_when true k.number k.line (all_counted k.is_final (value_at ks))) old new → LeadsTo (lent_when lends k.number k.line (all_counted k.is_final (value_at ks))) old new
lends_when k ks lends old new e h = subst (λ (b : Bool). LeadsTo (lent_when b k.number k.line (all_counted k.is_final (value_at ks))) old new) (sym e) h

pub lends_nothing : (k : Child) (ks : List (Piece Clause)) (lends : Bool) (t : HoldingTask) → lends ≡ false → LeadsTo (lent_when lends k.number k.line (all_counted k.is_final (value_at ks))) t t
lends_nothing k ks lends t e = subst (λ (b : Bool). LeadsTo (lent_when b k.number k.line (all_counted k.is_final (value_at ks))) t t) (sym e) (λ all h s. s)

-- What is released

pub releases_more : (clauses : List Access) (old new : HoldingTask) → AreAdded clauses old.released new.released → new.lent ≡ old.lent → new.told ≡ old.told → new.waits ≡ old.waits → new.uses ≡ old.uses → LeadsTo (releases clauses) old new
releases_more clauses old new now lent lines waits uses all h s = record {
  lent = subst (λ (ps : List (Piece Lent)). AreLent h.lent ps) (sym lent) s.lent;
  released = λ c. now c ∙ ap (λ (b : Bool). in_clauses clauses c || b) (s.released c);
  past = λ c l. ap (λ (b : Bool). b || h.released c) (clauses_bounded clauses c l) ∙ s.past c l;
  told = subst (λ (ls : List Late). AreLines all h.told ls) (sym lines) s.told;
  waits = λ other. ap (λ (ls : BTreeSet ℕ). has_line ls other) waits ∙ s.waits other;
  uses = λ other. ap (λ (ls : BTreeSet ℕ). has_line ls other) uses ∙ s.uses other;
}

-- A clause counts where there is one.
some_counted : (final : Bool) (o : Option Clause) → is_some o ≡ is_some (counted_if final o)
some_counted final None = refl
some_counted final (Some k) = refl

pub all_some : (final : Bool) (said : ℕ → Option Clause) → ◌≡◌ {A = ℕ → Bool} (λ c. is_some (said c)) (λ c. is_some (all_counted final said c))
all_some final said = fun_ext (λ c. some_counted final (said c))

-- One behind the other

pub use_after : (layout : List Grid) (cells : ℕ → Bool) (line : ℕ) (up : Holding → Holding) (old mid new : HoldingTask) → Leads layout (IsUse cells line) old mid → LeadsTo up mid new → Leads layout (IsUseThen cells line up) old new
use_after layout cells line up old mid new first second all h laid s =
    let k = first all h laid s in
    (up k.0, (record { used = k.0; use_is = k.1.0; new_is = refl }, second all k.0 k.1.1))

-- A touch that no child hinders, and one that one does.
pub touch_free : (clause : Option Clause) (touch : Touch) (c line : ℕ) (t : HoldingTask) → hinderer clause touch (value_at t.lent c) ≡ None → LeadsTo (touched_under clause touch c line) t t
touch_free clause touch c line t free all h s =
    let e : hinderer clause touch (h.lent c) ≡ None = ap (λ (l : Option Lent). hinderer clause touch l) (sym (s.lent c)) ∙ free in
    subst (λ (o : Option Holder). IsHolding all (waits_before touch c line o h) t) (sym e) s

pub touch_lent : (clause : Option Clause) (touch : Touch) (c line : ℕ) (child : Holder) (old mid new : HoldingTask) → hinderer clause touch (value_at old.lent c) ≡ Some child
    → LeadsTo (told_wait touch c line child) old mid → LeadsTo (with_lent nothing_lent) mid new → LeadsTo (touched_under clause touch c line) old new
touch_lent clause touch c line child old mid new hinders first second all h s =
    let e : hinderer clause touch (h.lent c) ≡ Some child = ap (λ (l : Option Lent). hinderer clause touch l) (sym (s.lent c)) ∙ hinders in
    subst (λ (o : Option Holder). IsHolding all (waits_before touch c line o h) new) (sym e) (second all (told_wait touch c line child h) (first all h s))

-- A task before its first act.
pub new_holding : (t : HoldingTask) → AreLent nothing_lent t.lent → ((c : ℕ) → has t.released c ≡ false) → t.told ≡ [] → t.waits.keys ≡ [] → t.uses.keys ≡ [] → (all : List Item) (path : List ℕ) (line : ℕ) (clauses : ℕ → Option Clause)
    → IsHolding all (new_task path line clauses) t
new_holding t lent released lines waits uses all path line clauses = record {
  lent = lent;
  released = released;
  past = λ c l. refl;
  told = subst (λ (ls : List Late). AreLines all [] ls) (sym lines) tt;
  waits = λ line. ap (λ (ks : List ℕ). list_any (λ k. is_eq (nat_cmp line k)) ks) waits;
  uses = λ line. ap (λ (ks : List ℕ). list_any (λ k. is_eq (nat_cmp line k)) ks) uses;
}
