use Rattle.std.proofs.Common.{sym}
use Rattle.filter_cache.specs.Memos.{same_join}
use Rattle.filter_cache.proofs.Lookups.{join-is}
use Rattle.filter_apply.specs.Faults.{IsApplyFault, fault_of}
use Rattle.filter_apply.specs.Hands.{IsJoinedObject}
use Rattle.filter_apply.specs.Ranges.{map_of}
use Rattle.filter_apply.proofs.Handing.{err_told}
use Rattle.filter_apply.proofs.Shows.{left_none, right_none, held_a, held_b, joined_grown, joined_fault, joined_stands}
use Rattle.filter_apply.proofs.Truths.{in-found, after_joined, after_put_joined, joins_less, joins_grown, joins_more, joined-now}
use Rattle.filter_apply.proofs.routes.joined.Goals as goal

pub returns-in_default-clause-ok : goal.returns-in_default-clause-ok
returns-in_default-clause-ok c = left_none c.args.store.now c.args.first c.args.second c.in_default.is c.requires.second

pub returns-in_default-second-clause-ok : goal.returns-in_default-second-clause-ok
returns-in_default-second-clause-ok c = right_none c.args.store.now c.args.first c.args.second c.in-Some.a c.requires.store c.in-Some.is c.in_default-second.is c.requires.first

pub returns-in-Some-joined-clause-ok : goal.returns-in-Some-joined-clause-ok
returns-in-Some-joined-clause-ok c =
    let S = c.args.store.now in
    let a = c.in-Some.a in
    let b = c.in-Some-second.b in
    let name = c.in-Some-joined.name in
    joined_stands S S c.args.first c.args.second a b c.requires.store c.in-Some.is c.in-Some-second.is c.requires.first c.requires.second c.requires.apart name
    (c.requires.joins a.0 b.0 name.0 (in-found same_join join-is (a.0, b.0) c.args.memo.now.joins name.0 (sym c.in-Some-joined.ensures.found))).seen

pub returns-in-Some-joined-clause-joins : goal.returns-in-Some-joined-clause-joins
returns-in-Some-joined-clause-joins c =
    joins_less c.args.store.now c.args.memo.now c.joined.new.self (after_joined c.args.memo.now c.joined.new.self (c.in-Some.a.0, c.in-Some-second.b.0) c.joined.ensures.used) c.requires.joins

pub returns-in_err-name-clause-err : goal.returns-in_err-name-clause-err
returns-in_err-name-clause-err c =
    let S = c.args.store.now in
    let S' = c.join_apart.new.store in
    err_told (IsApplyFault (IsJoinedObject (map_of S c.args.first) (map_of S c.args.second)) S') c.from_residual.result (fault_of c.in_err-name.field-0.0) c.from_residual.ensures.1
    (joined_fault S S' c.args.first c.args.second c.in-Some.a c.in-Some-second.b c.requires.store c.in-Some.is c.in-Some-second.is c.requires.first c.requires.second c.requires.apart c.in_err-name.field-0.0 c.in_err-name.ensures.err)

pub returns-in_err-name-clause-store : goal.returns-in_err-name-clause-store
returns-in_err-name-clause-store c =
    joined_grown c.args.store.now c.join_apart.new.store c.args.first c.args.second c.in-Some.a c.in-Some-second.b c.requires.store c.in-Some.is c.in-Some-second.is c.requires.first c.requires.second c.requires.apart
    c.in_err-name.ensures.store

pub returns-in_err-name-clause-joins : goal.returns-in_err-name-clause-joins
returns-in_err-name-clause-joins c =
    let S = c.args.store.now in
    let S' = c.join_apart.new.store in
    let grown = joined_grown S S' c.args.first c.args.second c.in-Some.a c.in-Some-second.b c.requires.store c.in-Some.is c.in-Some-second.is c.requires.first c.requires.second c.requires.apart c.in_err-name.ensures.store in
    joins_less S' c.args.memo.now c.joined.new.self (after_joined c.args.memo.now c.joined.new.self (c.in-Some.a.0, c.in-Some-second.b.0) c.joined.ensures.used)
    (joins_grown S S' c.args.memo.now grown c.requires.joins)

pub returns-clause-store : goal.returns-clause-store
returns-clause-store c =
    joined_grown c.args.store.now c.join_apart.new.store c.args.first c.args.second c.in-Some.a c.in-Some-second.b c.requires.store c.in-Some.is c.in-Some-second.is c.requires.first c.requires.second c.requires.apart
    c.in_ok-name.ensures.store

pub returns-clause-joins : goal.returns-clause-joins
returns-clause-joins c =
    let S = c.args.store.now in
    let S' = c.join_apart.new.store in
    let a = c.in-Some.a in
    let b = c.in-Some-second.b in
    let name = c.in_ok-name.name in
    let grown = joined_grown S S' c.args.first c.args.second a b c.requires.store c.in-Some.is c.in-Some-second.is c.requires.first c.requires.second c.requires.apart c.in_ok-name.ensures.store in
    let first = held_a S S' c.args.first c.args.second a b c.requires.store c.in-Some.is c.in-Some-second.is c.requires.first c.requires.second c.requires.apart in
    let second = held_b S S' c.args.first c.args.second a b c.requires.store c.in-Some.is c.in-Some-second.is c.requires.first c.requires.second c.requires.apart in
    joins_more S' a.0 b.0 name.0 c.joined.new.self c.put_joined.new.self (after_put_joined c.joined.new.self c.put_joined.new.self (a.0, b.0) name.0 c.put_joined.ensures.entered)
    (joined-now S S' grown a.0 b.0 name.0 first second c.in_ok-name.ensures.ok)
    (joins_less S' c.args.memo.now c.joined.new.self (after_joined c.args.memo.now c.joined.new.self (a.0, b.0) c.joined.ensures.used)
    (joins_grown S S' c.args.memo.now grown c.requires.joins))
