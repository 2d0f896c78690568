use Rattle.std.proofs.Common.{◌≡◌, refl}
use Rattle.std.specs.Prelude.{codes}
use Rattle.serde_json.specs.Data.{no_members, put}
use Rattle.serde_json.specs.View.{members_view, view}
use Rattle.replay_page.proofs.Datas.{four_members}
use Rattle.replay_page.proofs.page.page_members.Goals as goal

pub returns : goal.returns
returns c =
    let none : members_view c.new-members.result.entries ≡ no_members = rw c.new-members.ensures.empty refl in
    let first : members_view c.put.new.map.entries ≡ put (codes "capture") (view c.in_ok-capture.capture) (members_view c.new-members.result.entries) = c.in_ok-put.ensures.ok in
    let second : members_view c.put-2.new.map.entries ≡ put (codes "captured") (view c.in_ok-captured.captured) (members_view c.put.new.map.entries) = c.in_ok-put-2.ensures.ok in
    let third : members_view c.put-3.new.map.entries ≡ put (codes "out") (view c.in_ok-out.out) (members_view c.put-2.new.map.entries) = c.in_ok-put-3.ensures.ok in
    let fourth : members_view c.put-4.new.map.entries ≡ put (codes "replayed") (view c.in_ok-replayed.replayed) (members_view c.put-3.new.map.entries) = c.in_ok-put-4.ensures.ok in
    four_members c.args.page (members_view c.new-members.result.entries) (members_view c.put.new.map.entries) (members_view c.put-2.new.map.entries) (members_view c.put-3.new.map.entries) (members_view c.put-4.new.map.entries)
    (view c.in_ok-capture.capture) (view c.in_ok-captured.captured) (view c.in_ok-out.out) (view c.in_ok-replayed.replayed)
    none first second third fourth c.in_ok-capture.ensures c.in_ok-captured.ensures c.in_ok-out.ensures c.in_ok-replayed.ensures
