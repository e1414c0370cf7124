use Rattle.std.proofs.Common.{◌++◌}
use Rattle.std.proofs.lemmas.Result.{err_from_is_err_and}
use Rattle.room_outside.proofs.line_text.OutputLemmas.{puts_second, breaks_first, breaks_second}
use Rattle.room_show.specs.Lines.{actor_line}
use Rattle.room_show.specs.Text.{attributes_text, deferred_text, peers_text, actor_text}
use Rattle.room_show.proofs.text.write_actor.Goals as goal

pub returns-in_err-write_actor_line : goal.returns-in_err-write_actor_line
unfolding actor_text
returns-in_err-write_actor_line g c =
    let p = err_from_is_err_and c.from_residual.result c.from_residual.ensures.1 in
    let t = c.args.wiring.now in
    let a = c.args.actor.now in
    let title = actor_line t a.who a.state in
    let attributes = attributes_text t a in
    let deferred = deferred_text t a.deferred in
    let peers = peers_text t a.who.slot.0 a.peers in
    rw p.1 (breaks_first _ _ title (attributes ++ (deferred ++ peers)) c.in_err-write_actor_line.ensures)

pub returns-in_err-write_attributes_of : goal.returns-in_err-write_attributes_of
unfolding actor_text
returns-in_err-write_attributes_of g c =
    let p = err_from_is_err_and c.from_residual-in_err-write_attributes_of.result c.from_residual-in_err-write_attributes_of.ensures.1 in
    let t = c.args.wiring.now in
    let a = c.args.actor.now in
    let title = actor_line t a.who a.state in
    let attributes = attributes_text t a in
    let deferred = deferred_text t a.deferred in
    let peers = peers_text t a.who.slot.0 a.peers in
    rw p.1 (breaks_second _ _ _ title (attributes ++ (deferred ++ peers)) c.in_ok-write_actor_line.ensures
    (breaks_first _ _ attributes (deferred ++ peers) c.in_err-write_attributes_of.ensures))

pub returns-in_err-write_deferred : goal.returns-in_err-write_deferred
unfolding actor_text
returns-in_err-write_deferred g c =
    let p = err_from_is_err_and c.from_residual-in_err-write_deferred.result c.from_residual-in_err-write_deferred.ensures.1 in
    let t = c.args.wiring.now in
    let a = c.args.actor.now in
    let title = actor_line t a.who a.state in
    let attributes = attributes_text t a in
    let deferred = deferred_text t a.deferred in
    let peers = peers_text t a.who.slot.0 a.peers in
    rw p.1 (breaks_second _ _ _ title (attributes ++ (deferred ++ peers)) c.in_ok-write_actor_line.ensures
    (breaks_second _ _ _ attributes (deferred ++ peers) c.in_ok-write_attributes_of.ensures
    (breaks_first _ _ deferred peers (rw c.as_slice.ensures at c.in_err-write_deferred.ensures))))

pub returns : goal.returns
unfolding actor_text
returns g c =
    let t = c.args.wiring.now in
    let a = c.args.actor.now in
    let title = actor_line t a.who a.state in
    let attributes = attributes_text t a in
    let deferred = deferred_text t a.deferred in
    let peers = peers_text t a.who.slot.0 a.peers in
    puts_second _ _ _ _ title (attributes ++ (deferred ++ peers)) c.in_ok-write_actor_line.ensures
    (puts_second _ _ _ _ attributes (deferred ++ peers) c.in_ok-write_attributes_of.ensures
    (puts_second _ _ _ _ deferred peers (rw c.as_slice.ensures at c.in_ok-write_deferred.ensures) (rw c.as_slice-2.ensures at c.write_peers.ensures)))
