-- What is kept of the differences of a table stays right as both servers go on, as the map grows, and as suspects are judged.
use Rattle.std.proofs.Common.{◌≡◌, ◌∙◌, ℕ, zero, suc, ◌+◌, ◌<◌, ◌≤◌, Bool, true, false, ◌||◌, List, [], ◌∷◌, ◌++◌, length, take, drop, get_or, Option, None, Some, refl, sym, ap, subst, ⊎_elim, arith, ◌&&◌}
use Rattle.std.specs.Prelude.{nat_eq, nat_le, remove, slice_get}
use Rattle.std.specs.List.{AllByRecursion, Contains, list_any}
use Rattle.std.proofs.Math.Bool.{or-false}
use Rattle.std.proofs.Math.Seq.{drop-cons, take-suc}
use Rattle.std.proofs.lemmas.Bool.{and_from, and_right, eq-eqb, eqb-true, le-leb, ne_eqb, or_from, or_parts, true≢false}
use Rattle.std.proofs.lemmas.List.{drop_more, length-append, take-append-le, take_all, take_more}
use Rattle.std.proofs.lemmas.List.Elements.{Contains-append_left}
use Rattle.std.proofs.lemmas.List.Folds.{list_any-append}
use Rattle.std.proofs.lemmas.Option.{get_or_from_slice_get, none-some, slice_get_within}
use Rattle.desk_values.specs.declared.value.Image.{Image}
use Rattle.server_words.proofs.Members.{each_joined, each_weaker}
use Rattle.row_versions.specs.History.{Written}
use Rattle.id_pairs.specs.Pairs.{IdPair, IsIdMap}
use Rattle.law_server.specs.Rows.Images.{IsRenamedImage}
use Rattle.law_server.specs.Renaming.Twins.{AreSets, IsRenamedRow}
use Rattle.law_replays.proofs.End.Longer.{image_longer}
use Rattle.twin_tables.specs.declared.differences.Differences.{Differences}
use Rattle.twin_tables.specs.declared.judging.Suspect.{Suspect}
use Rattle.twin_tables.specs.declared.judging.Suspect.TheVariants.{Captured, Replayed}
use Rattle.twin_tables.specs.declared.judging.Verdict.TheVariants.{Agrees, Covered, Apart}
use Rattle.twin_tables.specs.Differences.{Agree, AgreeBeside, AreKept, Both, Follows, HasBegun, HasTwin, IsPlace, IsTwin, IsUpTo, captured_suspect, captured_told, is_changed, is_written, names_captured, names_replayed, replayed_suspect, replayed_told, stood_at}
use Rattle.twin_tables.specs.Inside.Judging.{AreCovered, BeginsBefore, CapturedAgrees, IsCovered, IsJudged, IsJudgedOn, IsNextOf, ReplayedAgrees, next_due}
use Rattle.twin_tables.specs.Ledger.{NumbersRise, changes_of, told}
use Rattle.twin_tables.proofs.Agreeing.{captured_is, changed_both, one_origin, one_twin, replayed_is, weaker, without_captured, without_replayed}
use Rattle.twin_tables.proofs.Written.{none_due, told_more, told_stays, told_unwritten, written_less, written_more}

abbrev no : Bool
no = false

-- ---- at later commits

abbrev at_numbers : Both → ℕ → ℕ → Both
at_numbers both captured_at replayed_at = record both { captured_at = captured_at; replayed_at = replayed_at }

module _ (both : Both) (d : Differences) (captured_at replayed_at : ℕ) (one : both.captured_at ≤ captured_at) (two : both.replayed_at ≤ replayed_at) (kept : AreKept both d) where
  abbrev later : Both
  later = at_numbers both captured_at replayed_at

  captured_free : (row : ℕ) → captured_suspect later d row ≡ false → captured_suspect both d row ≡ false
  captured_free row free =
      let parts = or_parts (list_any (names_captured row) d.kept.items) (is_written (drop d.captured_place both.captured) captured_at row) free in
      or_from (list_any (names_captured row) d.kept.items) (is_written (drop d.captured_place both.captured) both.captured_at row) parts.0 (written_less (drop d.captured_place both.captured) both.captured_at captured_at row one parts.1)

  replayed_free : (row : ℕ) → replayed_suspect later d row ≡ false → replayed_suspect both d row ≡ false
  replayed_free row free =
      let parts = or_parts (list_any (names_replayed row) d.kept.items) (is_written (drop d.replayed_place both.replayed) replayed_at row) free in
      or_from (list_any (names_replayed row) d.kept.items) (is_written (drop d.replayed_place both.replayed) both.replayed_at row) parts.0 (written_less (drop d.replayed_place both.replayed) both.replayed_at replayed_at row two parts.1)

  captured_same : (row : ℕ) → captured_suspect later d row ≡ false → captured_told later row ≡ captured_told both row
  captured_same row free =
      let parts = or_parts (list_any (names_captured row) d.kept.items) (is_written (drop d.captured_place both.captured) captured_at row) free in
      told_stays both.captured d.captured_place both.captured_at captured_at row one kept.captured.before parts.1

  replayed_same : (row : ℕ) → replayed_suspect later d row ≡ false → replayed_told later row ≡ replayed_told both row
  replayed_same row free =
      let parts = or_parts (list_any (names_replayed row) d.kept.items) (is_written (drop d.replayed_place both.replayed) replayed_at row) free in
      told_stays both.replayed d.replayed_place both.replayed_at replayed_at row two kept.replayed.before parts.1

  -- `is_of` says that a row is told under its own number
  pub kept_later : ((row : ℕ) (image : Image) → captured_told both row ≡ Some image → image.row ≡ row) → ((row : ℕ) (image : Image) → replayed_told both row ≡ Some image → image.row ≡ row) → AreKept later d
  kept_later captured_of replayed_of = record {
    agree = record {
      forth = λ row free partners image at.
          let before = sym (captured_same row free) ∙ at in
          let t = kept.agree.forth row (captured_free row free) (λ other p. replayed_free other (partners other p)) image before in
          let pair : IsRenamedRow both.pairs row t.0.row = subst (λ (r : ℕ). IsRenamedRow both.pairs r t.0.row) (captured_of row image before) t.2.row in
          (t.0, replayed_same t.0.row (partners t.0.row pair) ∙ t.1, t.2);
      back = λ other free partners image at.
          let before = sym (replayed_same other free) ∙ at in
          let t = kept.agree.back other (replayed_free other free) (λ row p. captured_free row (partners row p)) image before in
          let pair : IsRenamedRow both.pairs t.0.row other = subst (λ (r : ℕ). IsRenamedRow both.pairs t.0.row r) (replayed_of other image before) t.2.row in
          (t.0, captured_same t.0.row (partners t.0.row pair) ∙ t.1, t.2);
    };
    captured = record { within = kept.captured.within; before = each_weaker (IsUpTo both.captured_at) (IsUpTo captured_at) (λ (w : Written) (low : w.number ≤ both.captured_at). omega (arith, low, one)) (take d.captured_place both.captured) kept.captured.before };
    replayed = record { within = kept.replayed.within; before = each_weaker (IsUpTo both.replayed_at) (IsUpTo replayed_at) (λ (w : Written) (low : w.number ≤ both.replayed_at). omega (arith, low, two)) (take d.replayed_place both.replayed) kept.replayed.before };
  }

-- ---- where one of them writes more

module _ (both : Both) (d : Differences) (w : Written) (kept : AreKept both d) where
  module _ (later : both.captured_at < w.number) where
    abbrev captured_more : Both
    captured_more = record both { captured = both.captured ++ w ∷ [] }

    suspect_still : (row : ℕ) → captured_suspect captured_more d row ≡ captured_suspect both d row
    suspect_still row = ap (λ (b : Bool). list_any (names_captured row) d.kept.items || b) (written_more both.captured w d.captured_place both.captured_at row kept.captured.within later)

    same_told : (row : ℕ) → captured_told captured_more row ≡ captured_told both row
    same_told row = told_more both.captured w both.captured_at row later

    pub kept_captured : AreKept captured_more d
    kept_captured = record {
      agree = record {
        forth = λ row free partners image at. kept.agree.forth row (sym (suspect_still row) ∙ free) partners image (sym (same_told row) ∙ at);
        back = λ other free partners image at.
            let t = kept.agree.back other free (λ row p. sym (suspect_still row) ∙ partners row p) image at in
            (t.0, same_told t.0.row ∙ t.1, t.2);
      };
      captured = record {
        within = (let within = kept.captured.within in omega (arith, within, length-append both.captured (w ∷ [])));
        before = subst (λ (l : List Written). AllByRecursion (IsUpTo both.captured_at) l) (sym (take-append-le d.captured_place both.captured (w ∷ []) kept.captured.within)) kept.captured.before;
      };
      replayed = kept.replayed;
    }

  module _ (later : both.replayed_at < w.number) where
    abbrev replayed_more : Both
    replayed_more = record both { replayed = both.replayed ++ w ∷ [] }

    suspected_still : (row : ℕ) → replayed_suspect replayed_more d row ≡ replayed_suspect both d row
    suspected_still row = ap (λ (b : Bool). list_any (names_replayed row) d.kept.items || b) (written_more both.replayed w d.replayed_place both.replayed_at row kept.replayed.within later)

    told_same : (row : ℕ) → replayed_told replayed_more row ≡ replayed_told both row
    told_same row = told_more both.replayed w both.replayed_at row later

    pub kept_replayed : AreKept replayed_more d
    kept_replayed = record {
      agree = record {
        forth = λ row free partners image at.
            let t = kept.agree.forth row free (λ other p. sym (suspected_still other) ∙ partners other p) image at in
            (t.0, told_same t.0.row ∙ t.1, t.2);
        back = λ other free partners image at. kept.agree.back other (sym (suspected_still other) ∙ free) partners image (sym (told_same other) ∙ at);
      };
      captured = kept.captured;
      replayed = record {
        within = (let within = kept.replayed.within in omega (arith, within, length-append both.replayed (w ∷ [])));
        before = subst (λ (l : List Written). AllByRecursion (IsUpTo both.replayed_at) l) (sym (take-append-le d.replayed_place both.replayed (w ∷ []) kept.replayed.within)) kept.replayed.before;
      };
    }

-- ---- where the map grows

pub kept_longer : (both : Both) (d : Differences) (more : List IdPair) → AreKept both d → AreKept (record both { pairs = both.pairs ++ more }) d
kept_longer both d more kept = record {
  agree = record {
    forth = λ row free partners image at.
        let t = kept.agree.forth row free (λ other p. partners other (Contains-append_left both.pairs more _ p)) image at in
        (t.0, t.1, image_longer both.pairs more image t.0 t.2);
    back = λ other free partners image at.
        let t = kept.agree.back other free (λ row p. partners row (Contains-append_left both.pairs more _ p)) image at in
        (t.0, t.1, image_longer both.pairs more t.0 image t.2);
  };
  captured = kept.captured;
  replayed = kept.replayed;
}

-- ---- at the beginning

module _ (pairs : List IdPair) (captured replayed : List Written) where
  abbrev first : Both
  first = record { pairs = pairs; captured = captured; captured_at = 0; replayed = replayed; replayed_at = 0 }

  stands_first : (c r : ℕ) (d : Differences) → HasBegun c r d → AreKept first d → Follows pairs captured replayed d
  stands_first c r d is kept = subst (λ (n : ℕ). AreKept (record { pairs = pairs; captured = captured; captured_at = n; replayed = replayed; replayed_at = d.replayed_at }) d) (sym is.captured_at)
      (subst (λ (n : ℕ). AreKept (record { pairs = pairs; captured = captured; captured_at = 0; replayed = replayed; replayed_at = n }) d) (sym is.replayed_at) kept)

  -- behind the changes of one start
  pub kept_first : (table c r : ℕ) (d : Differences) → HasBegun c r d → IsPlace captured 0 c → IsPlace replayed 0 r → AgreeBeside first table [] [] → Follows pairs captured replayed d
  kept_first table c r d is one two agree = stands_first c r d is (record {
    agree = record { forth = λ row free partners. agree.forth row refl; back = λ other free partners. agree.back other refl };
    captured = subst (IsPlace captured 0) (sym is.captured_place) one;
    replayed = subst (IsPlace replayed 0) (sym is.replayed_place) two;
  })

  -- where all is suspect
  pub kept_anew : (d : Differences) → HasBegun 0 0 d → AreKept first d
  kept_anew d is = record {
    agree = record {
      forth = λ row free partners image at.
          let parts = or_parts (list_any (names_captured row) d.kept.items) (is_written (drop d.captured_place captured) 0 row) free in
          let none : is_written captured 0 row ≡ false = ap (λ (n : ℕ). is_written (drop n captured) 0 row) (sym is.captured_place) ∙ parts.1 in
          absurd (none-some image (sym (told_unwritten captured 0 row none) ∙ at));
      back = λ other free partners image at.
          let parts = or_parts (list_any (names_replayed other) d.kept.items) (is_written (drop d.replayed_place replayed) 0 other) free in
          let none : is_written replayed 0 other ≡ false = ap (λ (n : ℕ). is_written (drop n replayed) 0 other) (sym is.replayed_place) ∙ parts.1 in
          absurd (none-some image (sym (told_unwritten replayed 0 other none) ∙ at));
    };
    captured = subst (IsPlace captured 0) (sym is.captured_place) (record { within = omega arith; before = tt });
    replayed = subst (IsPlace replayed 0) (sym is.replayed_place) (record { within = omega arith; before = tt });
  }

  -- ---- where it is asked

  abbrev asked : ℕ → ℕ → Both
  asked captured_at replayed_at = record { pairs = pairs; captured = captured; captured_at = captured_at; replayed = replayed; replayed_at = replayed_at }

  -- what is kept does not name the commits at which it stands
  pub kept_moved : (both : Both) (d moved : Differences) → moved.captured_place ≡ d.captured_place → moved.replayed_place ≡ d.replayed_place → moved.kept ≡ d.kept → AreKept both d → AreKept both moved
  kept_moved both d moved one two three kept =
      let same : (captured_at replayed_at : ℕ) → AreKept both (record d { captured_at = captured_at; replayed_at = replayed_at }) = λ captured_at replayed_at. record { agree = kept.agree; captured = kept.captured; replayed = kept.replayed } in
      let is : record d { captured_at = moved.captured_at; replayed_at = moved.replayed_at } ≡ moved = λ i. record { captured_at = moved.captured_at; replayed_at = moved.replayed_at; captured_place = sym one i; replayed_place = sym two i; kept = sym three i } in
      subst (AreKept both) is (same moved.captured_at moved.replayed_at)

  pub kept_asked : (captured_at replayed_at : ℕ) (old mid : Differences) → IsIdMap pairs → Follows pairs captured replayed old → BeginsBefore captured_at replayed_at old mid → AreKept (asked captured_at replayed_at) mid
  kept_asked captured_at replayed_at old mid is_map follows begins = ⊎_elim
      (λ (anew : HasBegun 0 0 mid).
      kept_later first mid captured_at replayed_at (omega arith) (omega arith) (kept_anew mid anew) (captured_is first is_map) (replayed_is first is_map))
      (λ still.
      let stood = stood_at pairs captured replayed old in
      subst (AreKept (asked captured_at replayed_at)) (sym still.0) (kept_later stood old captured_at replayed_at still.1 still.2 follows (captured_is stood is_map) (replayed_is stood is_map)))
      begins

-- ---- suspects are judged

-- the next of what was written from a place on
drop_next : (list : List Written) (place : ℕ) (w : Written) → slice_get list place ≡ Some w → drop place list ≡ w ∷ drop (place + 1) list
drop_next list place w at =
    let within = slice_get_within list place w at in
    drop_more list place w within ∙ ap (λ (v : Written). v ∷ drop (place + 1) list) (get_or_from_slice_get list place w w at)

next_written : (list : List Written) (place number row : ℕ) (w : Written) → slice_get list place ≡ Some w → is_written (drop (place + 1) list) number row ≡ false → (w.image.row ≡ row → ⊥) → is_written (drop place list) number row ≡ false
next_written list place number row w at none apart =
    ap (λ (l : List Written). is_written l number row) (drop_next list place w at)
    ∙ or_from (nat_eq w.image.row row && nat_le w.number number) (is_written (drop (place + 1) list) number row) (ap (λ (b : Bool). b && nat_le w.number number) (ne_eqb w.image.row row apart)) none

place_next : (list : List Written) (place number : ℕ) (w : Written) → slice_get list place ≡ Some w → w.number ≤ number → IsPlace list number place → IsPlace list number (place + 1)
place_next list place number w at low is =
    let within = slice_get_within list place w at in
    record {
      within = omega (arith, within);
      before = subst (AllByRecursion (IsUpTo number)) (sym (take_more list place w within ∙ ap (λ (v : Written). take place list ++ v ∷ []) (get_or_from_slice_get list place w w at))) (each_joined (IsUpTo number) (take place list) (w ∷ []) is.before (low, tt));
    }

any_push : {X : Type 0} (p : X → Bool) (xs : List X) (x : X) → list_any p (xs ++ x ∷ []) ≡ (list_any p xs || p x)
any_push p xs x = list_any-append p xs (x ∷ []) ∙ ap (λ (b : Bool). list_any p xs || b) (or-false (p x))

module _ (both : Both) (is_map : IsIdMap both.pairs) (table : ℕ) (own others : List Image) where
  -- the captured server wrote a row, which agrees
  pub pass_agreed : (d : Differences) (row : ℕ) → AreKept both d → IsNextOf both.captured d.captured_place both.captured_at row → CapturedAgrees both row → AreKept both (record d { captured_place = d.captured_place + 1 })
  pass_agreed d row kept next agrees =
      let w = next.0 in
      let new : Differences = record d { captured_place = d.captured_place + 1 } in
      record {
        agree = without_captured both is_map (captured_suspect both d) (captured_suspect both new) (replayed_suspect both d) (replayed_suspect both new) kept.agree row
            (λ r free apart.
            let parts = or_parts (list_any (names_captured r) d.kept.items) (is_written (drop (d.captured_place + 1) both.captured) both.captured_at r) free in
            or_from (list_any (names_captured r) d.kept.items) (is_written (drop d.captured_place both.captured) both.captured_at r) parts.0
            (next_written both.captured d.captured_place both.captured_at r w next.1 parts.1 (λ e. apart (sym next.2 ∙ e))))
            (λ r free. free) agrees;
        captured = place_next both.captured d.captured_place both.captured_at w next.1 next.3 kept.captured;
        replayed = kept.replayed;
      }

  -- or lies under a change of the session
  pub pass_covered : (d new : Differences) (row : ℕ) → AreKept both d → IsNextOf both.captured d.captured_place both.captured_at row
      → new.kept.items ≡ d.kept.items ++ Captured row ∷ [] → new.captured_place ≡ d.captured_place + 1 → new.replayed_place ≡ d.replayed_place → AreKept both new
  pass_covered d new row kept next grown place still =
      let w = next.0 in
      let more : (r : ℕ) → captured_suspect both new r ≡ false → captured_suspect both d r ≡ false = λ r free.
      let parts = or_parts (list_any (names_captured r) new.kept.items) (is_written (drop new.captured_place both.captured) both.captured_at r) free in
      let pushed = or_parts (list_any (names_captured r) d.kept.items) (nat_eq row r) (sym (any_push (names_captured r) d.kept.items (Captured row)) ∙ sym (ap (list_any (names_captured r)) grown) ∙ parts.0) in
      let rest : is_written (drop (d.captured_place + 1) both.captured) both.captured_at r ≡ false = ap (λ (n : ℕ). is_written (drop n both.captured) both.captured_at r) (sym place) ∙ parts.1 in
      or_from (list_any (names_captured r) d.kept.items) (is_written (drop d.captured_place both.captured) both.captured_at r) pushed.0
      (next_written both.captured d.captured_place both.captured_at r w next.1 rest (λ e. true≢false (sym (eq-eqb row r (sym next.2 ∙ e)) ∙ pushed.1))) in
      let same : (r : ℕ) → replayed_suspect both new r ≡ false → replayed_suspect both d r ≡ false = λ r free.
      let parts = or_parts (list_any (names_replayed r) new.kept.items) (is_written (drop new.replayed_place both.replayed) both.replayed_at r) free in
      let pushed = or_parts (list_any (names_replayed r) d.kept.items) no (sym (any_push (names_replayed r) d.kept.items (Captured row)) ∙ sym (ap (list_any (names_replayed r)) grown) ∙ parts.0) in
      or_from (list_any (names_replayed r) d.kept.items) (is_written (drop d.replayed_place both.replayed) both.replayed_at r) pushed.0
      (ap (λ (n : ℕ). is_written (drop n both.replayed) both.replayed_at r) (sym still) ∙ parts.1) in
      record {
        agree = weaker both is_map (captured_suspect both d) (captured_suspect both new) (replayed_suspect both d) (replayed_suspect both new) more same kept.agree;
        captured = subst (IsPlace both.captured both.captured_at) (sym place) (place_next both.captured d.captured_place both.captured_at w next.1 next.3 kept.captured);
        replayed = subst (IsPlace both.replayed both.replayed_at) (sym still) kept.replayed;
      }

  -- the same of the replayed server
  pub passed_agreed : (d : Differences) (row : ℕ) → AreKept both d → IsNextOf both.replayed d.replayed_place both.replayed_at row → ReplayedAgrees both row → AreKept both (record d { replayed_place = d.replayed_place + 1 })
  passed_agreed d row kept next agrees =
      let w = next.0 in
      let new : Differences = record d { replayed_place = d.replayed_place + 1 } in
      record {
        agree = without_replayed both is_map (captured_suspect both d) (captured_suspect both new) (replayed_suspect both d) (replayed_suspect both new) kept.agree row
            (λ r free. free)
            (λ r free apart.
            let parts = or_parts (list_any (names_replayed r) d.kept.items) (is_written (drop (d.replayed_place + 1) both.replayed) both.replayed_at r) free in
            or_from (list_any (names_replayed r) d.kept.items) (is_written (drop d.replayed_place both.replayed) both.replayed_at r) parts.0
            (next_written both.replayed d.replayed_place both.replayed_at r w next.1 parts.1 (λ e. apart (sym next.2 ∙ e))))
            agrees;
        captured = kept.captured;
        replayed = place_next both.replayed d.replayed_place both.replayed_at w next.1 next.3 kept.replayed;
      }

  pub passed_covered : (d new : Differences) (row : ℕ) → AreKept both d → IsNextOf both.replayed d.replayed_place both.replayed_at row
      → new.kept.items ≡ d.kept.items ++ Replayed row ∷ [] → new.replayed_place ≡ d.replayed_place + 1 → new.captured_place ≡ d.captured_place → AreKept both new
  passed_covered d new row kept next grown place still =
      let w = next.0 in
      let more : (r : ℕ) → replayed_suspect both new r ≡ false → replayed_suspect both d r ≡ false = λ r free.
      let parts = or_parts (list_any (names_replayed r) new.kept.items) (is_written (drop new.replayed_place both.replayed) both.replayed_at r) free in
      let pushed = or_parts (list_any (names_replayed r) d.kept.items) (nat_eq row r) (sym (any_push (names_replayed r) d.kept.items (Replayed row)) ∙ sym (ap (list_any (names_replayed r)) grown) ∙ parts.0) in
      let rest : is_written (drop (d.replayed_place + 1) both.replayed) both.replayed_at r ≡ false = ap (λ (n : ℕ). is_written (drop n both.replayed) both.replayed_at r) (sym place) ∙ parts.1 in
      or_from (list_any (names_replayed r) d.kept.items) (is_written (drop d.replayed_place both.replayed) both.replayed_at r) pushed.0
      (next_written both.replayed d.replayed_place both.replayed_at r w next.1 rest (λ e. true≢false (sym (eq-eqb row r (sym next.2 ∙ e)) ∙ pushed.1))) in
      let same : (r : ℕ) → captured_suspect both new r ≡ false → captured_suspect both d r ≡ false = λ r free.
      let parts = or_parts (list_any (names_captured r) new.kept.items) (is_written (drop new.captured_place both.captured) both.captured_at r) free in
      let pushed = or_parts (list_any (names_captured r) d.kept.items) no (sym (any_push (names_captured r) d.kept.items (Replayed row)) ∙ sym (ap (list_any (names_captured r)) grown) ∙ parts.0) in
      or_from (list_any (names_captured r) d.kept.items) (is_written (drop d.captured_place both.captured) both.captured_at r) pushed.0
      (ap (λ (n : ℕ). is_written (drop n both.captured) both.captured_at r) (sym still) ∙ parts.1) in
      record {
        agree = weaker both is_map (captured_suspect both d) (captured_suspect both new) (replayed_suspect both d) (replayed_suspect both new) same more kept.agree;
        captured = subst (IsPlace both.captured both.captured_at) (sym still) kept.captured;
        replayed = subst (IsPlace both.replayed both.replayed_at) (sym place) (place_next both.replayed d.replayed_place both.replayed_at w next.1 next.3 kept.replayed);
      }

  -- ---- one that is kept

  any_removed : {X : Type 0} (p : X → Bool) (xs : List X) (i : ℕ) (x : X) → slice_get xs i ≡ Some x → list_any p (remove xs i) ≡ false → p x ≡ false → list_any p xs ≡ false
  any_removed p [] i x at none fails = refl
  any_removed p (y ∷ xs) zero x at none fails = let is : y ≡ x = cc in or_from (p y) (list_any p xs) (ap p is ∙ fails) none
  any_removed p (y ∷ xs) (suc i) x at none fails = let parts = or_parts (p y) (list_any p (remove xs i)) none in or_from (p y) (list_any p xs) parts.0 (any_removed p xs i x at parts.1 fails)

  pub drop_captured : (d new : Differences) (i row : ℕ) → AreKept both d → slice_get d.kept.items i ≡ Some (Captured row) → new.kept.items ≡ remove d.kept.items i
      → new.captured_place ≡ d.captured_place → new.replayed_place ≡ d.replayed_place → CapturedAgrees both row → AreKept both new
  drop_captured d new i row kept at fewer one two agrees = record {
    agree = without_captured both is_map (captured_suspect both d) (captured_suspect both new) (replayed_suspect both d) (replayed_suspect both new) kept.agree row
        (λ r free apart.
        let parts = or_parts (list_any (names_captured r) new.kept.items) (is_written (drop new.captured_place both.captured) both.captured_at r) free in
        or_from (list_any (names_captured r) d.kept.items) (is_written (drop d.captured_place both.captured) both.captured_at r)
        (any_removed (names_captured r) d.kept.items i (Captured row) at (sym (ap (list_any (names_captured r)) fewer) ∙ parts.0) (ne_eqb row r apart))
        (ap (λ (n : ℕ). is_written (drop n both.captured) both.captured_at r) (sym one) ∙ parts.1))
        (λ r free.
        let parts = or_parts (list_any (names_replayed r) new.kept.items) (is_written (drop new.replayed_place both.replayed) both.replayed_at r) free in
        or_from (list_any (names_replayed r) d.kept.items) (is_written (drop d.replayed_place both.replayed) both.replayed_at r)
        (any_removed (names_replayed r) d.kept.items i (Captured row) at (sym (ap (list_any (names_replayed r)) fewer) ∙ parts.0) refl)
        (ap (λ (n : ℕ). is_written (drop n both.replayed) both.replayed_at r) (sym two) ∙ parts.1))
        agrees;
    captured = subst (IsPlace both.captured both.captured_at) (sym one) kept.captured;
    replayed = subst (IsPlace both.replayed both.replayed_at) (sym two) kept.replayed;
  }

  pub drop_replayed : (d new : Differences) (i row : ℕ) → AreKept both d → slice_get d.kept.items i ≡ Some (Replayed row) → new.kept.items ≡ remove d.kept.items i
      → new.captured_place ≡ d.captured_place → new.replayed_place ≡ d.replayed_place → ReplayedAgrees both row → AreKept both new
  drop_replayed d new i row kept at fewer one two agrees = record {
    agree = without_replayed both is_map (captured_suspect both d) (captured_suspect both new) (replayed_suspect both d) (replayed_suspect both new) kept.agree row
        (λ r free.
        let parts = or_parts (list_any (names_captured r) new.kept.items) (is_written (drop new.captured_place both.captured) both.captured_at r) free in
        or_from (list_any (names_captured r) d.kept.items) (is_written (drop d.captured_place both.captured) both.captured_at r)
        (any_removed (names_captured r) d.kept.items i (Replayed row) at (sym (ap (list_any (names_captured r)) fewer) ∙ parts.0) refl)
        (ap (λ (n : ℕ). is_written (drop n both.captured) both.captured_at r) (sym one) ∙ parts.1))
        (λ r free apart.
        let parts = or_parts (list_any (names_replayed r) new.kept.items) (is_written (drop new.replayed_place both.replayed) both.replayed_at r) free in
        or_from (list_any (names_replayed r) d.kept.items) (is_written (drop d.replayed_place both.replayed) both.replayed_at r)
        (any_removed (names_replayed r) d.kept.items i (Replayed row) at (sym (ap (list_any (names_replayed r)) fewer) ∙ parts.0) (ne_eqb row r apart))
        (ap (λ (n : ℕ). is_written (drop n both.replayed) both.replayed_at r) (sym two) ∙ parts.1))
        agrees;
    captured = subst (IsPlace both.captured both.captured_at) (sym one) kept.captured;
    replayed = subst (IsPlace both.replayed both.replayed_at) (sym two) kept.replayed;
  }

  -- ---- what a verdict says of a suspect

  pub dropped : (d new : Differences) (i : ℕ) (suspect : Suspect) → AreKept both d → slice_get d.kept.items i ≡ Some suspect → new.kept.items ≡ remove d.kept.items i
      → new.captured_place ≡ d.captured_place → new.replayed_place ≡ d.replayed_place → IsJudged both table own others suspect Agrees → AreKept both new
  dropped d new i (Captured row) kept at fewer one two agrees = drop_captured d new i row kept at fewer one two agrees
  dropped d new i (Replayed row) kept at fewer one two agrees = drop_replayed d new i row kept at fewer one two agrees

  pub covered_from : (suspect : Suspect) → IsJudged both table own others suspect Covered → IsCovered table own others suspect
  covered_from (Captured row) is = is
  covered_from (Replayed row) is = is

  pub apart_from : (suspect : Suspect) → IsJudged both table own others suspect Apart → ¬ AgreeBeside both table own others
  apart_from (Captured row) is = is
  apart_from (Replayed row) is = is

  -- ---- where all suspects are covered

  captured_covered : (kept : List Suspect) (row : ℕ) → AreCovered table own others kept → is_changed own table row ≡ false → list_any (names_captured row) kept ≡ false
  captured_covered [] row covered beside = refl
  captured_covered (Captured r ∷ kept) row covered beside = or_from (nat_eq r row) (list_any (names_captured row) kept)
      (ne_eqb r row (λ e. true≢false (sym covered.0 ∙ ap (is_changed own table) e ∙ beside))) (captured_covered kept row covered.1 beside)
  captured_covered (Replayed r ∷ kept) row covered beside = captured_covered kept row covered.1 beside

  replayed_covered : (kept : List Suspect) (row : ℕ) → AreCovered table own others kept → is_changed others table row ≡ false → list_any (names_replayed row) kept ≡ false
  replayed_covered [] row covered beside = refl
  replayed_covered (Captured r ∷ kept) row covered beside = replayed_covered kept row covered.1 beside
  replayed_covered (Replayed r ∷ kept) row covered beside = or_from (nat_eq r row) (list_any (names_replayed row) kept)
      (ne_eqb r row (λ e. true≢false (sym covered.0 ∙ ap (is_changed others table) e ∙ beside))) (replayed_covered kept row covered.1 beside)

  pub settled : (d : Differences) → AreSets (IsRenamedImage both.pairs) own others → AreKept both d → AreCovered table own others d.kept.items
      → NumbersRise 0 both.captured → NumbersRise 0 both.replayed
      → next_due both.captured_at (slice_get (changes_of both.captured) d.captured_place) ≡ None → next_due both.replayed_at (slice_get (changes_of both.replayed) d.replayed_place) ≡ None
      → AgreeBeside both table own others
  settled d twins kept covered rise also none gone =
      let captured_none : (row : ℕ) → is_changed own table row ≡ false → captured_suspect both d row ≡ false = λ row beside.
      or_from (list_any (names_captured row) d.kept.items) (is_written (drop d.captured_place both.captured) both.captured_at row) (captured_covered d.kept.items row covered beside)
      (none_due both.captured 0 d.captured_place both.captured_at row rise none) in
      let replayed_none : (row : ℕ) → is_changed others table row ≡ false → replayed_suspect both d row ≡ false = λ row beside.
      or_from (list_any (names_replayed row) d.kept.items) (is_written (drop d.replayed_place both.replayed) both.replayed_at row) (replayed_covered d.kept.items row covered beside)
      (none_due both.replayed 0 d.replayed_place both.replayed_at row also gone) in
      record {
        forth = λ row beside. kept.agree.forth row (captured_none row beside) (λ other p. replayed_none other (sym (changed_both both is_map table own others twins row other p) ∙ beside));
        back = λ other beside. kept.agree.back other (replayed_none other beside) (λ row p. captured_none row (changed_both both is_map table own others twins row other p ∙ beside));
      }

  -- ---- what is covered

  covered_push : (kept : List Suspect) (suspect : Suspect) → AreCovered table own others kept → IsCovered table own others suspect → AreCovered table own others (kept ++ suspect ∷ [])
  covered_push kept suspect covered one = each_joined (IsCovered table own others) kept (suspect ∷ []) covered (one, tt)

  pub covered_more : (kept new : List Suspect) (suspect : Suspect) → new ≡ kept ++ suspect ∷ [] → IsCovered table own others suspect → AreCovered table own others kept → AreCovered table own others new
  covered_more kept new suspect grown one covered = subst (AreCovered table own others) (sym grown) (covered_push kept suspect covered one)

  taken_removed : {X : Type 0} (xs : List X) (i : ℕ) → take i (remove xs i) ≡ take i xs
  taken_removed [] zero = refl
  taken_removed [] (suc i) = refl
  taken_removed (x ∷ xs) zero = refl
  taken_removed (x ∷ xs) (suc i) = ap (λ (l : List _). x ∷ l) (taken_removed xs i)

  -- one was let go
  pub judged_away : (old new : Differences) (at : ℕ) → at < length old.kept.items → new.kept.items ≡ remove old.kept.items at → length new.kept.items + 1 ≡ length old.kept.items → IsJudgedOn table own others at at old new
  judged_away old new at within fewer count = record {
    covered = λ covered. subst (AreCovered table own others) (sym (ap (take at) fewer ∙ taken_removed old.kept.items at)) covered;
    within = omega (arith, within, count);
    nearer = omega (arith, count);
  }

  -- or stays
  pub judged_covered : (old new : Differences) (at : ℕ) (suspect : Suspect) → at < length old.kept.items → suspect ≡ get_or old.kept.items at suspect → IsCovered table own others suspect → new.kept.items ≡ old.kept.items → IsJudgedOn table own others at (at + 1) old new
  judged_covered old new at suspect within read one same = record {
    covered = λ covered. subst (AreCovered table own others)
        (sym (ap (take (at + 1)) same ∙ take_more old.kept.items at suspect within ∙ ap (λ (s : Suspect). take at old.kept.items ++ s ∷ []) (sym read)))
        (covered_push (take at old.kept.items) suspect covered one);
    within = (let long = ap length same in omega (arith, within, long));
    nearer = (let long = ap length same in omega (arith, long));
  }

pub past_none : {X : Type 0} (xs : List X) (i : ℕ) → None ≡ slice_get xs i → length xs ≤ i
past_none [] i e = omega arith
past_none (x ∷ xs) zero e = absurd cc
past_none (x ∷ xs) (suc i) e = let rest = past_none xs i e in omega (arith, rest)
