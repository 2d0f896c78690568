-- What is kept of tables to which nothing was written since the start, for each session.
use Rattle.std.proofs.Common.{◌≡◌, ◌∙◌, ℕ, ◌+◌, ◌*◌, ◌<◌, ◌≤◌, List, [], ◌∷◌, ◌++◌, length, get_or, refl, sym, ap, subst, length-append, ⊎_elim, arith}
use Rattle.std.proofs.lemmas.Bool.{cases_lt}
use Rattle.std.proofs.lemmas.List.{get_or_append_left, get_or_push, length_push}
use Rattle.row_versions.specs.History.{History}
use Rattle.twin_tables.specs.declared.differences.Differences.{Differences}
use Rattle.twin_tables.specs.Differences.{HasBegun}
use Rattle.replay_walk.specs.Inside.Passing.{AreBegun, HasMoreAlike, seat}
use Rattle.replay_walk.specs.Inside.Serving.{list_in}

module _ (captured replayed : ℕ) where
  pub alike_none : (list : List Differences) → HasMoreAlike captured replayed 0 list list
  alike_none list = record {
    length_is = omega arith;
    first = λ k d within. refl;
    more = λ k d least most. absurd (omega (arith, least, most));
  }

  pub alike_push : (n : ℕ) (old list : List Differences) (next : Differences) → HasMoreAlike captured replayed n old list → HasBegun captured replayed next → HasMoreAlike captured replayed (n + 1) old (list ++ next ∷ [])
  alike_push n old list next is begun =
      let grown = length_push list next in
      record {
        length_is = omega (arith, grown, is.length_is);
        first = λ k d within. get_or_append_left list (next ∷ []) d k (let so = is.length_is in omega (arith, within, so)) ∙ is.first k d within;
        more = λ k d least most. ⊎_elim
            (λ before. subst (HasBegun captured replayed) (sym (get_or_append_left list (next ∷ []) d k before)) (is.more k d least (let so = is.length_is in omega (arith, before, so))))
            (λ last. subst (HasBegun captured replayed) (sym (get_or_push list next d k (let so = is.length_is in omega (arith, last, most, so)))) begun)
            (cases_lt k (length list));
      }

module _ (captured replayed : List History) where
  pub begun_none : AreBegun captured replayed 0 []
  begun_none = record { length_is = refl; each = λ table session d within. absurd (omega (arith, within)) }

  pub begun_next : (tables : ℕ) (old new : List Differences) → AreBegun captured replayed tables old → HasMoreAlike (length (list_in captured tables)) (length (list_in replayed tables)) 64 old new → AreBegun captured replayed (tables + 1) new
  begun_next tables old new are more = record {
    length_is = omega (arith, more.length_is, are.length_is);
    each = λ table session d within less. ⊎_elim
        (λ before.
        let inside : seat table session < length old = (let so = are.length_is in omega (arith, so, before, less)) in
        subst (HasBegun (length (list_in captured table)) (length (list_in replayed table))) (sym (more.first (seat table session) d inside)) (are.each table session d before less))
        (λ last.
        let same : table ≡ tables = omega (arith, last, within) in
        let least : length old ≤ seat table session = (let so = are.length_is in omega (arith, so, same)) in
        let most : seat table session < length old + 64 = (let so = are.length_is in omega (arith, so, same, less)) in
        subst (λ (t : ℕ). HasBegun (length (list_in captured t)) (length (list_in replayed t)) (get_or new (seat table session) d)) (sym same) (more.more (seat table session) d least most))
        (cases_lt table tables);
  }
