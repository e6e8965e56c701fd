-- `row_view_peer::write_peer` meets its contract: its pieces follow one another (writes-append).
use Rattle.text_write.specs.Rows.{writes-append}
use Rattle.row_view_peer.specs.PeerLine.{peer_text}
use Rattle.row_view_peer.proofs.write_peer.Goals as goal

pub returns : goal.returns
unfolding peer_text
returns c = writes-append (writes-append (writes-append c.write_columns-peer.ensures c.write_columns-numbers.ensures) c.write_jobs-jobs.ensures) c.write_character.ensures
