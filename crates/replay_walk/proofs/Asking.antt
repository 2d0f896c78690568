-- A table of both servers is asked, as two sessions see it.
use Rattle.std.proofs.Common.{◌≡◌, ◌∙◌, ◌↔◌, ℕ, ◌+◌, ◌*◌, ◌<◌, ◌≤◌, Bool, List, length, get_or, sym, ap, subst, arith}
use Rattle.std.specs.Prelude.{IsTrue, OnOk, Ok, Err, Result, Vec}
use Rattle.std.specs.declared.alloc.Global.{Global}
use Rattle.std.specs.List.{filter}
use Rattle.desk_values.specs.declared.value.Image.{Image}
use Rattle.machine_model.specs.declared.footing.Footing.{Footing}
use Rattle.machine_stores.proofs.Telling.{along, along_four}
use Rattle.id_pairs.specs.Pairs.{IdPair}
use Rattle.remap_ids.specs.IdMap.{IdMapView}
use Rattle.row_versions.specs.History.{History, Written}
use Rattle.law_server.specs.Rows.Images.{IsRenamedImage}
use Rattle.law_server.specs.Renaming.Twins.{AreSets, IsRenamedRow}
use Rattle.twin_tables.specs.declared.differences.Differences.{Differences}
use Rattle.twin_tables.specs.declared.judging.Sides.{Sides}
use Rattle.twin_tables.specs.Differences.{AgreeBeside, AreSides, Both, Follows, both_of, others_of, own_of}
use Rattle.twin_tables.specs.Ledger.{nothing_written}
use Rattle.replay_walk.specs.declared.servers.Servers.{Servers}
use Rattle.replay_walk.specs.Inside.Passing.{AreKept, AreTwinOn, IsAskedAt, IsKeptAt, IsSidesOf, MayTellOn, both_on, seat, seen_captured, seen_replayed}
use Rattle.replay_walk.specs.Inside.Serving.{IsKept, list_in}
use Rattle.replay_walk.specs.Inside.Standing.{held_captured, held_replayed, is_seen}
use Rattle.replay_walk.proofs.Both.{told_kept}

-- three things that hold where a result is one
pub three_so : {T E A B C D : Type 0} (r : Result T E) → OnOk r A → OnOk r B → OnOk r C → (A → B → C → D) → OnOk r D
three_so (Ok x) a b c f = f a b c
three_so (Err e) a b c f = tt

module _ (session table : ℕ) (met meets : Footing) (servers : Servers) (may : MayTellOn session table met meets servers) (captured replayed : History)
    (one : captured ≡ get_or servers.behind.server.ledgers.items table nothing_written) (two : replayed ≡ get_or servers.replay.ledgers.items table nothing_written)
    (with : Sides) (is : IsSidesOf servers.map table captured met replayed meets with) where
  -- what stands in the ledgers
  captured_is : with.captured.now.list ≡ list_in servers.behind.server.ledgers.items table
  captured_is = ap (λ (h : History). h.list) (is.captured_is ∙ one)

  replayed_is : with.replayed.now.list ≡ list_in servers.replay.ledgers.items table
  replayed_is = ap (λ (h : History). h.list) (is.replayed_is ∙ two)

  pairs_are : with.map.now.pairs ≡ servers.map.pairs
  pairs_are = ap (λ (m : IdMapView). m.pairs) is.map_is

  inside : table < length servers.behind.server.ledgers.items
  inside = subst (λ (n : ℕ). table < n) may.kept.count may.table

  pub sides_are : AreSides with
  sides_are = record {
    captured = (let floor = (may.captured table nothing_written inside).floor in let same : with.captured.now.floor ≡ (get_or servers.behind.server.ledgers.items table nothing_written).floor = ap (λ (h : History). h.floor) (is.captured_is ∙ one) in omega (arith, floor, same));
    replayed = (let floor = (may.replayed table nothing_written may.table).floor in let same : with.replayed.now.floor ≡ (get_or servers.replay.ledgers.items table nothing_written).floor = ap (λ (h : History). h.floor) (is.replayed_is ∙ two) in omega (arith, floor, same));
    twins = subst (λ (l : List Image). AreSets (IsRenamedImage with.map.now.pairs) l with.others.now) (sym is.own) (subst (λ (l : List Image). AreSets (IsRenamedImage with.map.now.pairs) met.own.changes l) (sym is.others)
        (subst (λ (ps : List IdPair). AreSets (IsRenamedImage ps) met.own.changes meets.own.changes) (sym pairs_are) may.own));
  }

  -- the rows that are seen
  held_one : (rows : List ℕ) → held_captured with rows ≡ filter (seen_captured table met servers) rows
  held_one rows = λ i. filter (is_seen (captured_is i) (is.captured_at i) (is.own i) (is.table_is i)) rows

  held_two : (rows : List ℕ) → held_replayed with rows ≡ filter (seen_replayed table meets servers) rows
  held_two rows = λ i. filter (is_seen (replayed_is i) (is.replayed_at i) (is.others i) (is.table_is i)) rows

  both_is : both_of with ≡ both_on table met meets servers
  both_is = λ i. record { pairs = pairs_are i; captured = captured_is i; captured_at = is.captured_at i; replayed = replayed_is i; replayed_at = is.replayed_at i }

  -- what is told of the rows that are held, and of those beside the changes
  abbrev IsHeldSo : List IdPair → List ℕ → List ℕ → Type 0
  IsHeldSo pairs rows others = AreSets (IsRenamedRow pairs) rows others

  held_to : AreSets (IsRenamedRow with.map.now.pairs) (held_captured with met.held_rows) (held_replayed with meets.held_rows) → AreSets (IsRenamedRow servers.map.pairs) (filter (seen_captured table met servers) met.held_rows) (filter (seen_replayed table meets servers) meets.held_rows)
  held_to sets = along IsHeldSo pairs_are (held_one met.held_rows) (held_two meets.held_rows) sets

  pub held_back : AreTwinOn table met meets servers → AreSets (IsRenamedRow with.map.now.pairs) (held_captured with met.held_rows) (held_replayed with meets.held_rows)
  held_back on = along IsHeldSo (sym pairs_are) (sym (held_one met.held_rows)) (sym (held_two meets.held_rows)) on.held

  agree_to : AgreeBeside (both_of with) with.table (own_of with) (others_of with) → AgreeBeside (both_on table met meets servers) table met.own.changes meets.own.changes
  agree_to agree = along_four AgreeBeside both_is is.table_is is.own is.others agree

  agree_back : AgreeBeside (both_on table met meets servers) table met.own.changes meets.own.changes → AgreeBeside (both_of with) with.table (own_of with) (others_of with)
  agree_back agree = along_four AgreeBeside (sym both_is) (sym is.table_is) (sym is.own) (sym is.others) agree

  pub on_told : AreSets (IsRenamedRow with.map.now.pairs) (held_captured with met.held_rows) (held_replayed with meets.held_rows)
      → (agree : Bool) → IsTrue agree ↔ AgreeBeside (both_of with) with.table (own_of with) (others_of with) → IsTrue agree ↔ AreTwinOn table met meets servers
  on_told held agree told = (
    λ is_so. record { held = held_to held; rows = agree_to (told.0 is_so) },
    λ on. told.1 (agree_back on.rows),
  )

  -- what is kept
  pub place_within : seat table session < length servers.differences.items
  place_within = (let seats = may.kept.seats in let table_in = may.table in let less = may.session in omega (arith, seats, table_in, less))

  abbrev FollowsSo : Differences → List IdPair → List Written → List Written → Type 0
  FollowsSo d pairs list others = Follows pairs list others d

  pub may_follow : (d : Differences) → Follows with.map.now.pairs with.captured.now.list with.replayed.now.list (get_or servers.differences.items (seat table session) d)
  may_follow d =
      let seated = get_or servers.differences.items (seat table session) d in
      along (FollowsSo seated) (sym pairs_are) (sym captured_is) (sym replayed_is) (may.kept.each table session d may.table may.session).follows

  pub kept_again : (differences : Vec Differences Global) → IsAskedAt (seat table session) with servers.differences.items differences.items → AreKept (record servers { differences = differences })
  kept_again differences asked = told_kept servers differences table session asked.kept may.session asked.set may.kept may.table (record {
    follows = along (FollowsSo asked.kept) pairs_are captured_is replayed_is asked.follows;
    captured_at = (let most = may.met in let at = asked.captured_at ∙ is.captured_at in omega (arith, most, at));
    replayed_at = (let most = may.meets in let at = asked.replayed_at ∙ is.replayed_at in omega (arith, most, at));
  })
