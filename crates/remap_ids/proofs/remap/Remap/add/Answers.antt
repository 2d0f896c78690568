use Rattle.std.proofs.Common.{◌≡◌, ◌∙◌, ◌++◌, ◌∷◌, [], List, ℕ, true, false, length, sym, ap, is_some, Ok}
use Rattle.std.specs.Map.{lookup}
use Rattle.std.specs.Str.{bytes_eq}
use Rattle.std.specs.String.{string_bytes}
use Rattle.remap_ids.specs.Services.{ServicePair, sent_for}
use Rattle.remap_ids.proofs.Services.{length-seen, lookup_seen, repeated, further, inserted, seen}
use Rattle.remap_ids.proofs.remap.Remap.add.Goals as goal

pub returns-then-contains_key : goal.returns-then-contains_key
returns-then-contains_key c =
    let entries = c.self.inside.services.entries in
    let there : is_some (sent_for c.args.self.now (string_bytes c.in-Some.captured)) ≡ true =
    sym (λ i. is_some (sent_for (c.self.view_is i) (c.as_str.ensures.value i))) ∙ ap is_some (sym (lookup_seen entries c.as_str.result.now)) ∙ sym c.contains_key.ensures ∙ c.if-contains_key.true in
    let count : c.len.result ≡ length c.args.self.now = c.len.ensures.len ∙ sym (length-seen entries) ∙ ap length c.self.view_is in
    repeated c.args.self.now _ (string_bytes c.in-Some.captured, c.in-Some.sent) c.len.result (rw c.in-Some.is at c.in_ok-captured.ensures) there count

pub returns-in-Ok : goal.returns-in-Ok
returns-in-Ok c =
    let entries = c.self.inside.services.entries in
    let absent : is_some (sent_for c.args.self.now (string_bytes c.in-Some.captured)) ≡ false =
    sym (λ i. is_some (sent_for (c.self.view_is i) (c.as_str.ensures.value i))) ∙ ap is_some (sym (lookup_seen entries c.as_str.result.now)) ∙ sym c.contains_key.ensures ∙ c.if-contains_key.false in
    let lacks : is_some (lookup (λ key. bytes_eq (string_bytes c.in-Some.captured) (string_bytes key)) entries) ≡ false =
    sym (ap (λ (service : List ℕ). is_some (lookup (λ key. bytes_eq service (string_bytes key)) entries)) c.as_str.ensures.value) ∙ sym c.contains_key.ensures ∙ c.if-contains_key.false in
    let made = inserted c.self.inside.services c.in-Some.captured c.in-Some.sent lacks in
    further c.args.self.now _ (string_bytes c.in-Some.captured, c.in-Some.sent) (rw c.in-Some.is at c.in_ok-captured.ensures) absent ∙ ap Ok (sym (ap seen c.in-Ok.ensures.entries ∙ made ∙ ap (λ (services : List ServicePair). services ++ (string_bytes c.in-Some.captured, c.in-Some.sent) ∷ []) c.self.view_is))
