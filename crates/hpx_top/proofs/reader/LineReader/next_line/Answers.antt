use Rattle.std.proofs.Common.{arith, ◌+◌, drop, subst}
use Rattle.hpx_top.specs.Reader.{IsFound}
use Rattle.hpx_top.proofs.ReaderLemmas.{newline_within, lines_left-newline, lines_left-last, handed_out, handed_out-fewer, not_full-newline, not_full-last, lacks-newline, lacks-last, handed_out-behind, left_behind-newline, left_behind-last, out-newline, out-last}
use Rattle.hpx_top.proofs.reader.LineReader.next_line.Goals as goal

pub returns-in-Newline-clause-ok : goal.returns-in-Newline-clause-ok
returns-in-Newline-clause-ok g c =
    let mid = c.find_line.new.self in
    let found = subst (λ found. IsFound found mid) c.in-Newline.is c.in_ok-n.ensures.found in
    handed_out _ _ (drop (c.in-Newline.n + 1) mid.pending) _ mid _ _ _ c.hand_out.ensures.line c.hand_out.ensures.ok c.in_ok-n.ensures.input
    (lines_left-newline mid c.in-Newline.n _ found.0)

pub returns-in-Last-clause-ok : goal.returns-in-Last-clause-ok
returns-in-Last-clause-ok g c =
    let mid = c.find_line.new.self in
    let found = subst (λ found. IsFound found mid) c.in-Last.is c.in_ok-n.ensures.found in
    handed_out _ _ (drop c.in-Last.n mid.pending) _ mid _ _ _ c.hand_out-in-Last.ensures.line c.hand_out-in-Last.ensures.ok c.in_ok-n.ensures.input
    (lines_left-last mid c.in-Last.n _ found)

pub returns-in-Newline-clause-fewer : goal.returns-in-Newline-clause-fewer
returns-in-Newline-clause-fewer g c =
    let mid = c.find_line.new.self in
    let found = subst (λ found. IsFound found mid) c.in-Newline.is c.in_ok-n.ensures.found in
    let within = newline_within mid.pending c.in-Newline.n found.0 in
    handed_out-fewer _ (c.in-Newline.n + 1) _ mid _ c.hand_out.ensures.ok c.in_ok-n.ensures.kept (omega arith) (omega (arith, within))

pub returns-in-Last-clause-fewer : goal.returns-in-Last-clause-fewer
returns-in-Last-clause-fewer g c =
    let mid = c.find_line.new.self in
    let found = subst (λ found. IsFound found mid) c.in-Last.is c.in_ok-n.ensures.found in
    handed_out-fewer _ c.in-Last.n _ mid _ c.hand_out-in-Last.ensures.ok c.in_ok-n.ensures.kept found.some (omega (arith, found.count))

pub returns-in-Newline-clause-memory : goal.returns-in-Newline-clause-memory
returns-in-Newline-clause-memory g c =
    let mid = c.find_line.new.self in
    let found = subst (λ found. IsFound found mid) c.in-Newline.is c.in_ok-n.ensures.found in
    not_full-newline _ mid _ c.in-Newline.n c.hand_out.ensures.err found.0

pub returns-in-Last-clause-memory : goal.returns-in-Last-clause-memory
returns-in-Last-clause-memory g c =
    let mid = c.find_line.new.self in
    let found = subst (λ found. IsFound found mid) c.in-Last.is c.in_ok-n.ensures.found in
    not_full-last _ mid _ c.in-Last.n c.hand_out-in-Last.ensures.err found

pub returns-in-Newline-clause-behind : goal.returns-in-Newline-clause-behind
returns-in-Newline-clause-behind g c =
    let mid = c.find_line.new.self in
    let found = subst (λ found. IsFound found mid) c.in-Newline.is c.in_ok-n.ensures.found in
    handed_out-behind _ (drop (c.in-Newline.n + 1) mid.pending) c.args.self.now mid c.hand_out.new.self (g.S.Source.left c.args.source.now) _ c.hand_out.ensures.ok c.in_ok-n.ensures.input (left_behind-newline mid c.in-Newline.n _ found.0)

pub returns-in-Last-clause-behind : goal.returns-in-Last-clause-behind
returns-in-Last-clause-behind g c =
    let mid = c.find_line.new.self in
    let found = subst (λ found. IsFound found mid) c.in-Last.is c.in_ok-n.ensures.found in
    handed_out-behind _ (drop c.in-Last.n mid.pending) c.args.self.now mid c.hand_out-in-Last.new.self (g.S.Source.left c.args.source.now) _ c.hand_out-in-Last.ensures.ok c.in_ok-n.ensures.input (left_behind-last mid c.in-Last.n _ found)

pub returns-in-Newline-clause-out : goal.returns-in-Newline-clause-out
returns-in-Newline-clause-out g c =
    let mid = c.find_line.new.self in
    let found = subst (λ found. IsFound found mid) c.in-Newline.is c.in_ok-n.ensures.found in
    out-newline _ mid _ c.in-Newline.n (drop (c.in-Newline.n + 1) mid.pending) _ _ c.hand_out.ensures.ok c.hand_out.ensures.err found.0 c.in_ok-n.ensures.input

pub returns-in-Last-clause-out : goal.returns-in-Last-clause-out
returns-in-Last-clause-out g c =
    let mid = c.find_line.new.self in
    let found = subst (λ found. IsFound found mid) c.in-Last.is c.in_ok-n.ensures.found in
    out-last _ mid _ c.in-Last.n (drop c.in-Last.n mid.pending) _ _ c.hand_out-in-Last.ensures.ok c.hand_out-in-Last.ensures.err found

pub returns-in-Newline-clause-lacks : goal.returns-in-Newline-clause-lacks
returns-in-Newline-clause-lacks g c =
    let mid = c.find_line.new.self in
    let found = subst (λ found. IsFound found mid) c.in-Newline.is c.in_ok-n.ensures.found in
    lacks-newline _ mid _ c.in-Newline.n c.hand_out.ensures.err found.0 c.hand_out.ensures.lacks

pub returns-in-Last-clause-lacks : goal.returns-in-Last-clause-lacks
returns-in-Last-clause-lacks g c =
    let mid = c.find_line.new.self in
    let found = subst (λ found. IsFound found mid) c.in-Last.is c.in_ok-n.ensures.found in
    lacks-last _ mid _ c.in-Last.n c.hand_out-in-Last.ensures.err found c.hand_out-in-Last.ensures.lacks
