use Rattle.std.proofs.Common.{◌≡◌, true, false, find, is_some, rules}
use Rattle.std.specs.List.{list_any}
use Rattle.cluster_core.specs.Lookups.{is_peer_line}
use Rattle.peer_events.specs.Tables.{lacks_table, table_lacks_family}
use Rattle.peer_events.proofs.PeerAdded.{refused_exists, refused_table, refused_family, refused_not}
use Rattle.peer_events.proofs.peers.refusal.Goals as goal

pub returns-then-is_some : goal.returns-then-is_some
returns-then-is_some c = λ way m peers here there.
    let there_is : is_some (find (is_peer_line c.args.peer) c.args.core.now.peers) ≡ true = search rules in
    refused_exists way c.args.core.now.own c.args.peer c.args.tables.now m _ _ _ peers here there there_is

pub returns-then-lack_tables : goal.returns-then-lack_tables
returns-then-lack_tables c = λ way m peers here there.
    let none : is_some (find (is_peer_line c.args.peer) c.args.core.now.peers) ≡ false = search rules in
    let lack : list_any (lacks_table c.args.core.now.map c.args.beside.now) c.args.tables.now ≡ true = search rules in
    refused_table way c.args.core.now.own c.args.peer c.args.tables.now m _ _ _ peers here there none lack

pub returns-then-lack_families : goal.returns-then-lack_families
returns-then-lack_families c = λ way m peers here there.
    let none : is_some (find (is_peer_line c.args.peer) c.args.core.now.peers) ≡ false = search rules in
    let all : list_any (lacks_table c.args.core.now.map c.args.beside.now) c.args.tables.now ≡ false = search rules in
    let lack : list_any (table_lacks_family c.args.core.now.map c.args.beside.now) c.args.tables.now ≡ true = search rules in
    refused_family way c.args.core.now.own c.args.peer c.args.tables.now m _ _ _ peers here there none all lack

pub returns : goal.returns
returns c = λ way m peers here there.
    let none : is_some (find (is_peer_line c.args.peer) c.args.core.now.peers) ≡ false = search rules in
    let all : list_any (lacks_table c.args.core.now.map c.args.beside.now) c.args.tables.now ≡ false = search rules in
    let lack : list_any (table_lacks_family c.args.core.now.map c.args.beside.now) c.args.tables.now ≡ false = search rules in
    refused_not way c.args.core.now.own c.args.peer c.args.tables.now m _ _ _ peers here there none all lack
