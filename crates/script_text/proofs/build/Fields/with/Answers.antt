use Rattle.std.proofs.Common.{ℕ, List, ap, ◌∙◌}
use Rattle.serde_json.specs.Data.{put}
use Rattle.serde_json.specs.View.{view, members_view}
use Rattle.serde_json.proofs.Views.{members_view-insert_entry}
use Rattle.script_text.proofs.build.Fields.with.Goals as goal

pub returns : goal.returns
returns c =
    let before = c.args.self.map.entries in
    ap members_view c.in_ok-insert.ensures.entries
    ∙ members_view-insert_entry before c.in_ok-key.key c.args.value
    ∙ ap (λ (key : List ℕ). put key (view c.args.value) (members_view before)) c.in_ok-key.ensures.ok
