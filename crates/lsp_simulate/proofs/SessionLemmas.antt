-- A session that is written line by line.
-- ---- whole lines
use Rattle.lsp_simulate.proofs.Prelude.{◌≡◌, ◌≤◌, ◌⊎◌, ◌↔◌, inl, inr, ℕ, ◌+◌, true, false, List, [], ◌∷◌, ◌++◌, length, Option, Result, Ok, Err, refl, sym, ap, ◌∙◌, subst, arith, Appends-nil, Appends-trans, IfSome, length-append, Appends, IsAtEnd, EngineFault, ReaderState, Rose, WriterState, ports, AppendsFront, Spends, WritesWithin, allowed_turns, front_after, front_before, spends_more, stopped_after, PairData, IsFitting, are_within, can_choose_utf16, new_pair, Setting, RunFault, Read, Write, NoMemory, BadEvent, run_fault, AreSteps, IsSettingRefused, PairStep, RanSteps, ReadLines, WroteSession, WroteSteps, end_lines, line_count, next_line_number, pair_setting, step_line, step_lines, Passed, IsStepLine, IsUnderWay, read_fault}
use Rattle.lsp_pair.specs.declared.setting.PairFault.{PairFault}
use Rattle.lsp_pair.specs.declared.setting.PairFault.TheVariants.{NotUtf16, LimitsTooSmall}
use Rattle.lsp_simulate.proofs.InputLemmas.{all_passed, at_least, fewer, none_spent, passed_more}
use Rattle.lsp_simulate.proofs.LineLemmas.{whole_steps, write_fault, steps_more, lines_more}
use Rattle.lsp_stream.specs.declared.fault.EngineFault.TheVariants as engine

pub begun : (setting : Setting) (input later : Option (List ℕ)) (before : WriterState) (left : ℕ) (pair : PairData)
    → IsFitting (pair_setting setting) → pair ≡ new_pair (pair_setting setting) → left ≡ allowed_turns
    → Passed input 0 false later → IsUnderWay setting input later before before left 0 pair
begun setting input later before left pair fits is all none = record {
  fits = fits;
  steps = [];
  are_steps = is;
  last = refl;
  taken = none;
  written = Appends-nil before.written;
  spent = none_spent before.calls allowed_turns left all;
}

abbrev made : (pair after : PairData) (number : ℕ) (line : List ℕ) → IsStepLine pair after number line → PairStep
made pair after number line step = record { event = step.event; happened = step.happened }

-- A line was taken, and then a step was made.
module _ (setting : Setting) (reader now : ReaderState) (before mid : WriterState) (there rest : Option (List ℕ))
    (left number next : ℕ) (pair : PairData)
    (way : IsUnderWay setting reader.left there before mid left number pair) (one : Passed there 1 false rest)
    (counted : next ≡ next_line_number number) where
  line_more : (after : PairData) (line : List ℕ) (step : IsStepLine pair after next line)
      → step_lines 0 way.steps ++ line ≡ step_lines 0 (way.steps ++ made pair after next line step ∷ [])
  line_more after line step =
      let last : next ≡ next_line_number (0 + length way.steps) = omega (arith, counted, way.last) in
      ap (λ z. step_lines 0 way.steps ++ z) step.is
      ∙ sym (lines_more 0 way.steps (made pair after next line step) next last)

  are_more : (after : PairData) (line : List ℕ) (step : IsStepLine pair after next line)
      → AreSteps (new_pair (pair_setting setting)) (way.steps ++ made pair after next line step ∷ []) after
  are_more after line step =
      steps_more (new_pair (pair_setting setting)) way.steps pair (made pair after next line step) after way.are_steps
      step.is_step

  taken_more : (s : PairStep) → Passed reader.left (length (way.steps ++ s ∷ [])) false rest
  taken_more s =
      passed_more reader.left there rest (length way.steps) 1 (length (way.steps ++ s ∷ [])) way.taken one
      (length-append way.steps (s ∷ []))

  pub stepped : (after : PairData) (line : List ℕ) (new : WriterState) (right : ℕ) → IsStepLine pair after next line
      → Appends mid.written new.written line → Spends mid.calls new.calls left right
      → IsUnderWay setting reader.left rest before new right next after
  stepped after line new right step wrote spent = record {
    fits = way.fits;
    steps = way.steps ++ made pair after next line step ∷ [];
    are_steps = are_more after line step;
    last = omega (arith, counted, way.last, length-append way.steps (made pair after next line step ∷ []));
    taken = taken_more (made pair after next line step);
    written = subst (λ (z : List ℕ). Appends before.written new.written z) (line_more after line step)
        (Appends-trans before.written mid.written new.written (step_lines 0 way.steps) line way.written wrote);
    spent = spends_more before.calls mid.calls new.calls allowed_turns left right way.spent spent;
  }

  -- The line of a step was cut short.
  pub unwritten : (after : PairData) (line : List ℕ) (new : WriterState) (right : ℕ) (fault : EngineFault)
      (given : RunFault) → given ≡ run_fault fault → IsStepLine pair after next line
      → (fault ≡ engine.Write) ⊎ (fault ≡ engine.TooManyTurns) → AppendsFront mid.written new.written line
      → WritesWithin {A = Unit {0}} left right mid new (Err fault)
      → WroteSession setting (Err given) (ports reader before) (ports now new)
  unwritten after line new right fault given is step why some calls = rw (write_fault fault given is why) (record {
    fits = way.fits;
    steps = way.steps ++ made pair after next line step ∷ [];
    pair = after;
    are_steps = are_more after line step;
    read = at_least reader.left rest (length (way.steps ++ made pair after next line step ∷ []))
        (taken_more (made pair after next line step));
    written = (
      subst (λ (z : List ℕ). AppendsFront before.written new.written (z ++ end_lines after))
          (line_more after line step)
          (front_before before.written new.written (step_lines 0 way.steps ++ line) (end_lines after)
          (front_after before.written mid.written new.written (step_lines 0 way.steps) line way.written some)),
      (fault, stopped_after before mid new left right fault way.spent calls why),
    );
  })

-- ---- how a session ends

pub refused : {T : Type 0} (setting : Setting) (result : Result T PairFault) (fault : PairFault) → result ≡ Err fault
    → ((result ≡ Err NotUtf16) ↔ (can_choose_utf16 setting.config.choice ≡ false)) → ((result ≡ Err LimitsTooSmall)
    ↔ ((can_choose_utf16 setting.config.choice ≡ true) × (are_within setting.limits setting.config.limits ≡ false)))
    → IsSettingRefused (pair_setting setting) fault
refused setting result NotUtf16 is encoding limits = encoding.0 is
refused setting result LimitsTooSmall is encoding limits = limits.0 is

module _ (setting : Setting) (reader now : ReaderState) (before mid : WriterState) (rest : Option (List ℕ))
    (left number : ℕ) (pair : PairData)
    (way : IsUnderWay setting reader.left rest before mid left number pair) where
  ran : (result : Result (Unit {0}) RunFault) (after : WriterState)
      → ReadLines result (length way.steps) reader now → WroteSteps result way.steps pair before after
      → RanSteps setting result (ports reader before) (ports now after)
  ran result after read wrote = record {
    fits = way.fits;
    steps = way.steps;
    pair = pair;
    are_steps = way.are_steps;
    read = read;
    written = wrote;
  }

  some_read : IfSome reader.left (λ input. length way.steps ≤ line_count input)
  some_read = at_least reader.left rest (length way.steps) way.taken

  pub out_of_memory : RanSteps setting (Err NoMemory) (ports reader before) (ports now mid)
  out_of_memory =
      ran (Err NoMemory) mid some_read
      (step_lines 0 way.steps, end_lines pair, refl, whole_steps 0 way.steps, way.written)

  pub stopped : (next : ℕ) (later : Option (List ℕ)) (fault : RunFault) → next ≡ next_line_number number
      → Passed rest 1 false later → (fault ≡ NoMemory) ⊎ (fault ≡ BadEvent next)
      → WroteSession setting (Err fault) (ports reader before) (ports now mid)
  stopped next later fault counted one (inl is) = rw is out_of_memory
  stopped next later fault counted one (inr is) =
      let more : Passed reader.left (length way.steps + 1) false later =
      passed_more reader.left rest later (length way.steps) 1 (length way.steps + 1) way.taken one refl in
      rw is (ran (Err (BadEvent next)) mid
      (fewer reader.left later (length way.steps) (length way.steps + 1) more (omega arith))
      (counted ∙ way.last, way.written))

  pub unread : (fault : EngineFault)
      → (fault ≡ engine.NoMemory) ⊎ ((fault ≡ engine.Read) ⊎ (fault ≡ engine.TooManyTurns))
      → (fault ≡ engine.Read → (now.failed ≡ true) × Rose reader.calls now.calls)
      → (fault ≡ engine.TooManyTurns → Spends reader.calls now.calls allowed_turns 0)
      → WroteSession setting (Err (read_fault fault)) (ports reader before) (ports now mid)
  unread fault (inl is) failed spent = rw is out_of_memory
  unread fault (inr (inl is)) failed spent = rw is (ran (Err Read) mid (inl (failed is), some_read) way.written)
  unread fault (inr (inr is)) failed spent = rw is (ran (Err Read) mid (inr (spent is), some_read) way.written)

  pub ended : (later : Option (List ℕ)) (after : WriterState) → now.ended ≡ true → Passed rest 0 false later
      → IsAtEnd later → Appends mid.written after.written (end_lines pair)
      → RanSteps setting (Ok tt) (ports reader before) (ports now after)
  ended later after ends none at_end wrote =
      let all : Passed reader.left (length way.steps) false later =
      passed_more reader.left rest later (length way.steps) 0 (length way.steps) way.taken none (omega arith) in
      ran (Ok tt) after (ends, all_passed reader.left later (length way.steps) all at_end)
      (Appends-trans before.written mid.written after.written (step_lines 0 way.steps) (end_lines pair) way.written
      wrote)

  -- The lines of the end were cut short.
  pub end_cut : (after : WriterState) (right : ℕ) (text : List ℕ) (fault : EngineFault) (given : RunFault)
      → given ≡ run_fault fault → text ≡ end_lines pair → (fault ≡ engine.Write) ⊎ (fault ≡ engine.TooManyTurns)
      → AppendsFront mid.written after.written text → WritesWithin {A = Unit {0}} left right mid after (Err fault)
      → WroteSession setting (Err given) (ports reader before) (ports now after)
  end_cut after right text fault given is same why some calls = rw (write_fault fault given is why)
      (ran (Err Write) after some_read (
        front_after before.written mid.written after.written (step_lines 0 way.steps) (end_lines pair) way.written
            (subst (λ (z : List ℕ). AppendsFront mid.written after.written z) same some),
        (fault, stopped_after before mid after left right fault way.spent calls why),
      ))
