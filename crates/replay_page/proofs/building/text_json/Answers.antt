use Rattle.std.proofs.Common.{◌≡◌, List, ℕ, true, false, sym, subst}
use Rattle.std.specs.Str.{IsUtf8}
use Rattle.replay_page.proofs.Quiets.{quiet_utf8}
use Rattle.replay_page.proofs.building.text_json.Goals as goal

-- no bytes of a page are refused
pub unreachable-requires : goal.unreachable-requires
unreachable-requires c =
    let utf8 : IsUtf8 c.into_vec.result.items = subst (λ (bytes : List ℕ). IsUtf8 bytes) (sym c.into_vec.ensures) (quiet_utf8 c.args.bytes c.requires) in
    let taken : false ≡ true = c.in-Err.ensures.succeeds utf8 in
    cc
